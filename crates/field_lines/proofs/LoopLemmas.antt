-- The text on its way: what is written so far and the lines of the fields ahead make up the sheet's (walk/specs/Fold.antt).
-- Assumes nothing.
use Rattle.std.specs.Prelude.{◌≡◌, refl, List, [], ℕ, ◌-◌, Result, None, Ok, Err}
use Rattle.std.proofs.Common.{sym, ◌∙◌, append-nil}
use Rattle.refusals.specs.declared.Refusal.{Refusal}
use Rattle.fields.specs.Run.{Scan, Fields, Refused, sheet_of}
use Rattle.walk.specs.declared.Position.{Position}
use Rattle.walk.specs.declared.WalkStep.{WalkStep}
use Rattle.walk.specs.Step.{step_of}
use Rattle.walk.proofs.Fold.{loop_ends, loop_refused}
use Rattle.text.specs.Writing.{Writes, named}
use Rattle.text.proofs.Writing.{joined}
use Rattle.lines.specs.Lines.{refusal_line}
use Rattle.field_lines.specs.FieldLines.{fields_text, text_of}
use Rattle.field_lines.specs.LoopLemmas.{listed, Going}

listed-all : (r : Scan) → listed [] r ≡ fields_text r
listed-all (Fields fs) = refl
listed-all (Refused f p) = refl

module _ (s out₀ out : List ℕ) (w : Result Position (Refusal × ℕ)) (at : ℕ) (r : WalkStep) (g : Going s out₀ out w at) (found : r ≡ step_of s w) where
  -- where no field is ahead, the text is the sheet's
  pub at_end : r.given ≡ (Ok None) → Writes out₀ 0 (text_of s) out at
  at_end told = named g.written (sym (append-nil g.done) ∙ loop_ends g.loop found told ∙ listed-all (sheet_of s))

  pub with_refusal : (f : Refusal) (place : ℕ) → r.given ≡ Err (f, place) → (out' : List ℕ) (n : ℕ)
      → Writes out at (refusal_line f place) out' n → Writes out₀ 0 (text_of s) out' n
  with_refusal f place told out' n h = named (joined g.written h) (loop_refused g.loop found told ∙ listed-all (sheet_of s))
