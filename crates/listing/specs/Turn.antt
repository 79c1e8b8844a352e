-- A listing from field to field: what one field adds to the text and to the totals, and what the next one sees of it.
-- Assumes nothing.
use Rattle.std.specs.Prelude.{◌≡◌, List, ℕ, ◌+◌, ◌<◌, None}
use Rattle.fields.specs.declared.FieldKind.{FieldKind}
use Rattle.walk.specs.declared.FieldAt.{FieldAt}
use Rattle.walk.specs.Rest.{field_of}
use Rattle.text.specs.Writing.{last, Writes}
use Rattle.totals.specs.Totals.{is_word, is_refused_word}
use Rattle.listing.specs.declared.Progress.{Progress}
use Rattle.listing.specs.Listing.{after, line_of}

-- a field is listed: its line is written, the next field sees it, and it is counted
pub record Lists (out : List ℕ) (p : Progress) (k : FieldKind) (d : ℕ) (c : List ℕ) (out' : List ℕ) (q : Progress) : Type 0 where
  pub written : Writes out p.at (line_of p.before k d c) out' q.at
  pub before_is : q.before ≡ after k d c
  pub words_is : q.words ≡ p.words + is_word k
  pub refused_is : q.refused ≡ p.refused + is_refused_word k c

-- the same for a field that a walk gives
abbrev pub ListsField : List ℕ → List ℕ → Progress → FieldAt → List ℕ → Progress → Type 0
ListsField s out p a out' q = Lists out p a.kind a.depth (field_of s a).content out' q

-- one more word can be counted
abbrev pub Countable : Progress → Type 0
Countable p = (p.words < last) × (p.refused < last)

-- a note or a group prints nothing
abbrev pub passed_by : Progress → Progress
passed_by p = record { at = p.at; before = None; words = p.words; refused = p.refused }
