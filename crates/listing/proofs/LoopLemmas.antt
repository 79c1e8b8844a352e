-- A listing on its way: the text written so far and that of the fields ahead make up the sheet's (walk/specs/Fold.antt).
-- Assumes nothing.
use Rattle.std.specs.Prelude.{◌≡◌, refl, List, ◌++◌, ℕ, ◌+◌, None, Result, Ok, Err}
use Rattle.std.proofs.Common.{ap₂, ◌∙◌, zero-add, arith}
use Rattle.refusals.specs.declared.Refusal.{Refusal}
use Rattle.fields.specs.Run.{Scan, Fields, Refused, sheet_of}
use Rattle.walk.specs.declared.Position.{Position}
use Rattle.walk.specs.declared.WalkStep.{WalkStep}
use Rattle.walk.specs.Step.{step_of}
use Rattle.walk.proofs.Fold.{loop_ends, loop_refused}
use Rattle.text.specs.Writing.{Writes, named}
use Rattle.text.proofs.Writing.{joined}
use Rattle.totals.specs.Totals.{words_in, refused_words_in}
use Rattle.lines.specs.Lines.{total_line, refusal_line}
use Rattle.listing.specs.declared.Progress.{Progress}
use Rattle.listing.specs.Listing.{lines_of, listing_of, text_of}
use Rattle.listing.specs.LoopLemmas.{listed, no_text, Going}

listed-all : (r : Scan) → listed no_text r ≡ listing_of r
listed-all (Fields fs) = ap₂ (λ (w n : ℕ). lines_of None fs ++ total_line w n) (zero-add (words_in fs)) (zero-add (refused_words_in fs))
listed-all (Refused f p) = refl

module _ (s out₀ out : List ℕ) (w : Result Position (Refusal × ℕ)) (p : Progress) (r : WalkStep) (g : Going s out₀ out w p) (found : r ≡ step_of s w) where
  -- Where no field is ahead, the total or the refusal completes the text.
  pub with-total : r.given ≡ (Ok None) → (out' : List ℕ) (n : ℕ) → Writes out p.at (total_line p.words p.refused) out' n → Writes out₀ 0 (text_of s) out' n
  with-total told out' n h =
      named (joined g.written h)
      (ap₂ (λ (x y : ℕ). g.done ++ total_line x y) (omega arith) (omega arith) ∙ loop_ends g.loop found told ∙ listed-all (sheet_of s))

  pub with_refusal : (f : Refusal) (place : ℕ) → r.given ≡ Err (f, place) → (out' : List ℕ) (n : ℕ)
      → Writes out p.at (refusal_line f place) out' n → Writes out₀ 0 (text_of s) out' n
  with_refusal f place told out' n h = named (joined g.written h) (loop_refused g.loop found told ∙ listed-all (sheet_of s))
