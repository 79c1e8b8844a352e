-- A listing on its way: the text written so far and that of the fields ahead make up the sheet's (walk/specs/Fold.antt).
-- Assumes nothing.
use Rattle.std.specs.Prelude.{◌≡◌, List, [], ◌++◌, ℕ, ◌+◌, ◌≤◌, length, Option, None, Result, Some, Ok}
use Rattle.std.proofs.Common.{sym, ap, ap₂, ◌∙◌, append_assoc, arith}
use Rattle.fields.specs.Run.{Field, Scan, Fields, Refused}
use Rattle.walk.specs.declared.Position.{Position}
use Rattle.refusals.specs.declared.Refusal.{Refusal}
use Rattle.walk.specs.declared.FieldAt.{FieldAt}
use Rattle.walk.specs.declared.WalkStep.{WalkStep}
use Rattle.walk.specs.Step.{start_walk, step_of}
use Rattle.walk.specs.Rest.{field_of}
use Rattle.walk.specs.Fold.{Loop, Few, few_starts}
use Rattle.walk.proofs.Fold.{loop_starts, loop_goes, few_goes}
use Rattle.text.specs.Writing.{last, Writes, empty}
use Rattle.text.proofs.Writing.{joined}
use Rattle.totals.specs.Totals.{words_in, refused_words_in}
use Rattle.totals.proofs.CountingLemmas.{adds_word, adds_refused}
use Rattle.lines.specs.Lines.{total_line, refusal_line}
use Rattle.listing.specs.declared.Progress.{Progress}
use Rattle.listing.specs.Listing.{line_of, lines_of}
use Rattle.listing.specs.Turn.{ListsField}

-- the text so far, with what stands just before the next field and the totals so far
pub record Text : Type 0 where
  pub done : List ℕ
  pub before : Option (ℕ × ℕ)
  pub words : ℕ
  pub refused : ℕ

-- the same with the text of what is ahead
abbrev pub listed : Text → Scan → List ℕ
listed t (Fields fs) = t.done ++ (lines_of t.before fs ++ total_line (t.words + words_in fs) (t.refused + refused_words_in fs))
listed t (Refused f p) = t.done ++ refusal_line f p

-- nothing written
abbrev pub no_text : Text
no_text = record { done = []; before = None; words = 0; refused = 0 }

regroup : (a b c d : List ℕ) → a ++ ((b ++ c) ++ d) ≡ (a ++ b) ++ (c ++ d)
regroup a b c d = simp append_assoc

-- a field goes over from what is ahead to what is done: its line, and what it adds to a total
line_done : (done line : List ℕ) (b b' : Option (ℕ × ℕ)) (fs : List Field) (n n' m m' : ℕ) → b ≡ b' → n' ≡ n → m' ≡ m
    → done ++ ((line ++ lines_of b' fs) ++ total_line n' m') ≡ (done ++ line) ++ (lines_of b fs ++ total_line n m)
line_done done line b b' fs n n' m m' e en em =
    ap₂ (λ (x y : ℕ). done ++ ((line ++ lines_of b' fs) ++ total_line x y)) en em
    ∙ ap (λ (x : Option (ℕ × ℕ)). done ++ ((line ++ lines_of x fs) ++ total_line n m)) (sym e)
    ∙ regroup done line (lines_of b fs) (total_line n m)

one_more_lem : (before now adds later : ℕ) → now ≡ before + adds → before + (adds + later) ≡ now + later
one_more_lem before now adds later e = omega arith

-- a text with the progress of its writing
abbrev pub text_at : List ℕ → Progress → Text
text_at done p = record { done = done; before = p.before; words = p.words; refused = p.refused }

-- the progress before the first field
abbrev pub nothing_yet : Progress
nothing_yet = record { at = 0; before = None; words = 0; refused = 0 }

-- a loop that has stored its text, and has room for one more word
pub record Going (s out₀ out : List ℕ) (w : Result Position (Refusal × ℕ)) (p : Progress) : Type 0 where
  pub done : List ℕ
  pub loop : Loop listed s no_text w (text_at done p)
  pub written : Writes out₀ 0 done out p.at
  pub few : Few s w p.words
  pub fewer : Few s w p.refused

-- from the start everything is ahead
pub going_starts : (s out : List ℕ) (w : Result Position (Refusal × ℕ)) → length out ≤ last → w ≡ start_walk s → Going s out out w nothing_yet
going_starts s out w short e =
    record { done = []; loop = loop_starts e; written = empty short (omega arith); few = few_starts s w; fewer = few_starts s w }

module _ (s out₀ out : List ℕ) (w : Result Position (Refusal × ℕ)) (p : Progress) (r : WalkStep) (g : Going s out₀ out w p) (found : r ≡ step_of s w) where
  -- A listed field takes the listing to the next walk.
  pub going_on : (a : FieldAt) (out' : List ℕ) (q : Progress) → r.given ≡ Ok (Some a) → ListsField s out p a out' q → Going s out₀ out' r.next q
  going_on a out' q told h =
      let f : Field = field_of s a in
      let line : List ℕ = line_of p.before f.kind f.depth f.content in
      record {
        done = g.done ++ line;
        loop =
            loop_goes g.loop found (text_at (g.done ++ line) q) told
            (λ fs. line_done g.done line q.before _ fs _ _ _ _ h.before_is (one_more_lem _ _ _ _ h.words_is) (one_more_lem _ _ _ _ h.refused_is));
        written = joined g.written h.written;
        few = few_goes s w found told p.words g.few (adds_word f.kind p.words q.words h.words_is);
        fewer = few_goes s w found told p.refused g.fewer (adds_refused f.kind f.content p.refused q.refused h.refused_is);
      }
