-- The search for a note along a walk (walk/specs/Fold.antt): the note in what is ahead is the note in the sheet, until a field decides.
-- Assumes nothing.
use Rattle.std.specs.Prelude.{Result, Ok, Some}
use mathlib.Core.Path.{◌≡◌, sym, ap, ◌∙◌}
use mathlib.Core.Bool.{Bool, true, false, ◌&&◌, cond}
use mathlib.Core.List.{List, ◌∷◌}
use Prim.Native.Nat.{ℕ, ◌+◌, ◌≤◌}
use native.Mathlib.Omega.{arith}
use borrow.Author.Tests.{eqb-true}
use lib.Dec.{eqb}
use lib.ListN.{length}
use Rattle.fields.specs.Run.{Field, Scan, sheet_of}
use Rattle.walk.specs.declared.Position.{Position}
use Rattle.refusals.specs.declared.Refusal.{Refusal}
use Rattle.walk.specs.declared.FieldAt.{FieldAt}
use Rattle.walk.specs.declared.WalkStep.{WalkStep}
use Rattle.walk.specs.Step.{step_of}
use Rattle.walk.specs.Rest.{field_of}
use Rattle.walk.specs.Fold.{Loop}
use Rattle.walk.proofs.Fold.{loop_goes, loop_stops, field_ends, field-length}
use Rattle.notes.specs.Note.{Text, is_note, note_in, note_of, found_of}

-- a loop that has no state and gives the note at a place
abbrev pub Seeking : List ℕ → ℕ → Result Position (Refusal × ℕ) → Type 0
Seeking s p w = Loop (λ (_ : Unit {0}) (r : Scan). note_of r p) s tt w tt

second : (a b : Bool) → a && b ≡ true → b ≡ true
second true b e = e
second false b e = let z : ◌≡◌ {A = ℕ} 0 1 = cc in absurd (omega arith)

module _ (s : List ℕ) (p : ℕ) (w : Result Position (Refusal × ℕ)) (r : WalkStep) (l : Seeking s p w) (found : r ≡ step_of s w) (a : FieldAt) (told : r.given ≡ Ok (Some a)) where
  -- the note's end lies within the sheet
  pub seek_fits : is_note a.kind && eqb a.place p ≡ true → p + 3 + a.length ≤ length s
  seek_fits t =
      let here : a.place ≡ p = eqb-true a.place p (second (is_note a.kind) (eqb a.place p) t) in
      omega (arith, field_ends s w found told)

  passed : (b : Bool) → is_note a.kind && eqb a.place p ≡ b → (fs : List Field) → note_in (field_of s a ∷ fs) p ≡ cond b (Text (field_of s a).content) (note_in fs p)
  passed b t fs = ap (λ (x : Bool). cond x (Text (field_of s a).content) (note_in fs p)) t

  pub seek_found : is_note a.kind && eqb a.place p ≡ true → ◌≡◌ {A = Result (ℕ × ℕ) (Refusal × ℕ)} (Ok (p + 3, p + 3 + a.length)) (found_of p (note_of (sheet_of s) p))
  seek_found t = ap (λ (n : ℕ). Ok (p + 3, p + 3 + n)) (sym (field-length s w found told)) ∙ ap (found_of p) (loop_stops l found told (passed true t))

  pub seek_on : is_note a.kind && eqb a.place p ≡ false → Seeking s p r.next
  seek_on t = loop_goes l found tt told (passed false t)
