-- For whoever goes through a walk in a loop: what is still ahead of a walk, and what each answer of a step says of it.
-- Assumes nothing.
use Rattle.std.specs.Prelude.{◌≡◌, List, ◌∷◌, ℕ, ◌+◌, ◌-◌, ◌≤◌, ◌<◌, length, Result, Ok, Err}
use Rattle.refusals.specs.declared.Refusal.{Refusal}
use Rattle.fields.specs.Run.{Field, Scan, Fields, Refused}
use Rattle.walk.specs.declared.Position.{Position}
use Rattle.walk.specs.declared.FieldAt.{FieldAt}
use Rattle.walk.specs.Step.{step_of}
use Rattle.walk.specs.Rest.{rest_of, field_of}

-- what is ahead of a walk: these fields, or the refusal of the sheet, which the walk then tells at once
pub record Stands (s : List ℕ) (w : Result Position (Refusal × ℕ)) (r : Scan) : Type 0 where
  pub rest : rest_of s w ≡ r
  pub refused : (f : Refusal) (p : ℕ) → r ≡ Refused f p → w ≡ Err (f, p)

-- the number of bytes from a walk's place on
abbrev pub left : List ℕ → Result Position (Refusal × ℕ) → ℕ
left s (Ok w) = length s - w.place
left s (Err (f, p)) = 0

-- ---- what a step's answer says

-- a field that a step gives stands at the walk's place and ends within the sheet, and fewer bytes are left after it
pub record Advances (s : List ℕ) (w : Result Position (Refusal × ℕ)) (a : FieldAt) : Type 0 where
  pub here : left s w ≡ length s - a.place
  pub in_sheet : a.place + 3 + a.length ≤ length s
  pub less : left s (step_of s w).next < left s w

-- A field is the first of those ahead; the others are ahead of the next walk.
pub record Gives (s : List ℕ) (w : Result Position (Refusal × ℕ)) (a : FieldAt) (r : Scan) : Type 0 where
  pub later : List Field
  pub first : r ≡ Fields (field_of s a ∷ later)
  pub next : Stands s (step_of s w).next (Fields later)
