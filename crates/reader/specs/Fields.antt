-- The fields of a sheet by their index: what a walk gives after so many steps is the field with that index.
-- Assumes nothing.
use Rattle.std.specs.Prelude.{◌≡◌, Bool, true, false, List, [], ◌∷◌, ℕ, zero, suc, ◌-◌, ◌<◌, Result, Option, Some, None, Ok, Err}
use Rattle.std.proofs.Common.{ap, arith}
use Rattle.fields.specs.Run.{Field, Scan, Fields, Refused}
use Rattle.walk.specs.declared.Position.{Position}
use Rattle.refusals.specs.declared.Refusal.{Refusal}
use Rattle.walk.specs.declared.FieldAt.{FieldAt}
use Rattle.walk.specs.Step.{step_of}
use Rattle.walk.specs.Walked.{given_of, after}

-- whether a step gave a field
abbrev pub is_field : Result (Option FieldAt) (Refusal × ℕ) → Bool
is_field (Ok (Some a)) = true
is_field (Err (f, p)) = false
is_field (Ok None) = false

-- the field with this index, counted from 0; past the last, the end
abbrev pub field_in : List Field → ℕ → Result (Option FieldAt) (Refusal × ℕ)
field_in [] n = Ok None
field_in (f ∷ fs) zero = given_of f
field_in (f ∷ fs) (suc n) = field_in fs n

-- of a sheet: its own refusal whatever the index
abbrev pub field_at : Scan → ℕ → Result (Option FieldAt) (Refusal × ℕ)
field_at (Fields fs) n = field_in fs n
field_at (Refused f p) n = Err (f, p)

-- ---- a walk stays where its step gives no field, so that no number of steps leads on

-- the first of so many steps
pub after_one : (s : List ℕ) (w : Result Position (Refusal × ℕ)) (n : ℕ) → 0 < n → after n s w ≡ after (n - 1) s (step_of s w).next
after_one s w zero h = absurd (omega arith)
after_one s w (suc n) h =
    let same : n ≡ suc n - 1 = omega arith in
    ap (λ (m : ℕ). after m s (step_of s w).next) same

-- ---- what a walk from the start gives after so many steps
