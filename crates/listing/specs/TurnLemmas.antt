-- Each kind of field is listed as its function writes it: what the proofs of listing::put_field and the functions below it cite.
-- Assumes nothing.
use Rattle.std.specs.Prelude.{◌≡◌, refl, List, [], ℕ, ◌+◌, ◌-◌, ◌≤◌, ℤ, length, take, drop, Option, Some, None, Result, Ok, Err}
use Rattle.std.proofs.Common.{sym, ap, ap₂, subst, ◌∙◌, arith}
use Rattle.refusals.specs.declared.Refusal.{Refusal}
use Rattle.fields.specs.declared.FieldKind.{FieldKind}
use Rattle.labels.specs.Label.{label_of}
use Rattle.decode.specs.Decode.{decode_of}
use Rattle.records.specs.declared.Record.{Record}
use Rattle.walk.specs.declared.FieldAt.{FieldAt}
use Rattle.walk.specs.Rest.{field_of}
use Rattle.contents.specs.Contents.{word_in, figure_in}
use Rattle.text.specs.Writing.{last, Writes, named, empty}
use Rattle.verdicts.specs.Verdicts.{verdict_of}
use Rattle.word_lines.specs.WordLines.{decoded_line}
use Rattle.lines.specs.Lines.{verdict_line}
use Rattle.totals.specs.Totals.{refused_one, refused_word, is_word, is_refused_word}
use Rattle.listing.specs.declared.Progress.{Progress}
use Rattle.listing.specs.Listing.{previous, word_at, line_of_word, line_of_figure, after, line_of}
use Rattle.listing.specs.Turn.{Lists, ListsField, passed_by}

module _ (out : List ℕ) (p : Progress) (d : ℕ) (c : List ℕ) (out' : List ℕ) where
  -- a word field, by the word in it
  pub word-listed : (r : Result ℕ Refusal) (w : ℕ) (x : Result Record Refusal) (l n at : ℕ) → r ≡ word_in c → r ≡ Ok w → x ≡ decode_of w → l ≡ label_of w → n ≡ refused_one x
      → Writes out p.at (decoded_line x l) out' at
      → Lists out p FieldKind.Word d c out' (record { at = at; before = Some (d, w); words = p.words + 1; refused = p.refused + n })
  word-listed r w x l n at found told decoded label one h =
      let holds : Ok w ≡ word_in c = sym told ∙ found in
      record {
        written = named h (ap₂ decoded_line decoded label ∙ ap line_of_word holds);
        before_is = ap (word_at d) holds;
        words_is = refl;
        refused_is = ap (λ (k : ℕ). p.refused + k) (one ∙ ap refused_one decoded ∙ ap refused_word holds);
      }

  -- a figure field, by the figure in it
  pub figure_listed : (r : Result (ℕ × ℤ) Refusal) (l : ℕ) (m z : ℤ) (b : Option ℕ) (at : ℕ) → r ≡ figure_in c → r ≡ Ok (l, m) → b ≡ previous p.before d → z ≡ m
      → Writes out p.at (verdict_line (verdict_of b l z)) out' at
      → Lists out p FieldKind.Figure d c out' (record { at = at; before = None; words = p.words; refused = p.refused })
  figure_listed r l m z b at found told e same h =
      record {
        written = named h (ap (λ (x : ℤ). verdict_line (verdict_of b l x)) same ∙ ap₂ line_of_figure e (sym told ∙ found));
        before_is = refl;
        words_is = omega arith;
        refused_is = omega arith;
      }

module _ (out : List ℕ) (p : Progress) (d : ℕ) (c : List ℕ) (short : length out ≤ last) (fits : p.at ≤ last) where
  -- a word field of another length, which no legal sheet has
  pub no_word-listed : (r : Result ℕ Refusal) (f : Refusal) → r ≡ word_in c → r ≡ Err f
      → Lists out p FieldKind.Word d c out (record { at = p.at; before = None; words = p.words + 1; refused = p.refused })
  no_word-listed r f found told =
      let holds : Err f ≡ word_in c = sym told ∙ found in
      let none : 0 ≡ refused_word (word_in c) = ap refused_word holds in
      record { written = named (empty short fits) (ap line_of_word holds); before_is = ap (word_at d) holds; words_is = refl; refused_is = omega arith }

  module _ (q : Progress) (passed : q ≡ passed_by p) where
    -- a field without a line
    nothing : (k : FieldKind) → [] ≡ line_of p.before k d c → None ≡ after k d c → 0 ≡ is_word k → 0 ≡ is_refused_word k c → Lists out p k d c out q
    nothing k line next word refused =
        subst (Lists out p k d c out) (sym passed)
        (record { written = named (empty short fits) line; before_is = next; words_is = omega (arith, word); refused_is = omega (arith, refused) })

    pub no_figure_listed : (r : Result (ℕ × ℤ) Refusal) (f : Refusal) → r ≡ figure_in c → r ≡ Err f → Lists out p FieldKind.Figure d c out q
    no_figure_listed r f found told = nothing FieldKind.Figure (ap (line_of_figure (previous p.before d)) (sym told ∙ found)) refl refl refl

    pub note-listed : Lists out p FieldKind.Note d c out q
    note-listed = nothing FieldKind.Note refl refl refl refl

    pub group_listed : Lists out p FieldKind.Group d c out q
    group_listed = nothing FieldKind.Group refl refl refl refl

-- a field that a walk gives, by its kind and the part of the sheet that is its content
pub part-listed : (s out : List ℕ) (p : Progress) (a : FieldAt) (k : FieldKind) (out' : List ℕ) (q : Progress) → a.kind ≡ k
    → Lists out p k a.depth (take (a.place + 3 + a.length - (a.place + 3)) (drop (a.place + 3) s)) out' q → ListsField s out p a out' q
part-listed s out p a k out' q told h =
    let size : a.place + 3 + a.length - (a.place + 3) ≡ a.length = omega arith in
    subst (λ (j : FieldKind). Lists out p j a.depth (field_of s a).content out' q) (sym told)
    (subst (λ (n : ℕ). Lists out p k a.depth (take n (drop (a.place + 3) s)) out' q) size h)

-- a field that prints nothing, whatever its content
pub passed-listed : (s out : List ℕ) (p : Progress) (a : FieldAt) (k : FieldKind) (q : Progress) → a.kind ≡ k
    → Lists out p k a.depth (field_of s a).content out q → ListsField s out p a out q
passed-listed s out p a k q told h = subst (λ (j : FieldKind). Lists out p j a.depth (field_of s a).content out q) (sym told) h
