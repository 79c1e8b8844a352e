-- Walking a sheet: from the start it gives the sheet's own refusal, or each field, in the order of the tags, with place and depth, and then the end.
-- Assumes nothing.
use Rattle.std.specs.Prelude.{◌≡◌, refl, ℕ, zero, suc, ◌+◌, ◌-◌, ◌≤◌, ◌<◌, length, take, drop, Result, Ok, Err, Option, Some, None}
use mathlib.Core.List.Memᴰ
use mathlib.Core.List.{List, [], ◌∷◌}
use Rattle.fields.specs.declared.FieldKind.{FieldKind}
use Rattle.fields.specs.Start.{start_of}
use Rattle.fields.specs.Run.{Field, Fields, Refused}
use Rattle.walk.specs.declared.Position.{Position}
use Rattle.refusals.specs.declared.Refusal.{Refusal}
use Rattle.walk.specs.declared.FieldAt.{FieldAt}
use Rattle.walk.specs.Step.{level_of, given_at, step_of}
use Rattle.walk.specs.Stands.{Stands, left}

-- the first answers of a walk
abbrev pub walked : ℕ → List ℕ → Result Position (Refusal × ℕ) → List (Result (Option FieldAt) (Refusal × ℕ))
walked zero s w = []
walked (suc n) s w = (step_of s w).given ∷ walked n s (step_of s w).next

-- the walk after so many steps
abbrev pub after : ℕ → List ℕ → Result Position (Refusal × ℕ) → Result Position (Refusal × ℕ)
after zero s w = w
after (suc n) s w = after n s (step_of s w).next

-- a field as a step gives it: place, depth and kind, with the length of its content
abbrev pub given_of : Field → Result (Option FieldAt) (Refusal × ℕ)
given_of f = Ok (Some (record { place = f.place; depth = f.depth; kind = f.kind; length = length f.content }))

-- ---- one step, by what is ahead

-- a field lies in the sheet: its content is the part that starts 3 bytes after its place
pub record InSheet (s : List ℕ) (f : Field) : Type 0 where
  pub ends : f.place + 3 + length f.content ≤ length s
  pub content : f.content ≡ take (length f.content) (drop (f.place + 3) s)

-- with fields ahead, a step gives the first and leaves the others
pub record Steps (s : List ℕ) (w : Result Position (Refusal × ℕ)) (f : Field) (fs : List Field) : Type 0 where
  pub given : (step_of s w).given ≡ given_of f
  pub next : Stands s (step_of s w).next (Fields fs)
  pub in_sheet : InSheet s f
  pub here : left s w ≡ length s - f.place
  pub less : left s (step_of s w).next < left s w

-- where a step gives no field, the walk stays
stays_at : (w : Position) (d : ℕ) (t : Result (Option (FieldKind × ℕ)) Refusal) → ((a : FieldAt) → (given_at w d t).given ≡ Ok (Some a) → ⊥) → (given_at w d t).next ≡ Ok w
stays_at w d (Ok None) none = refl
stays_at w d (Err f) none = refl
stays_at w d (Ok (Some (k, n))) none = absurd (none _ refl)

pub stays : (s : List ℕ) (w : Result Position (Refusal × ℕ)) → ((a : FieldAt) → (step_of s w).given ≡ Ok (Some a) → ⊥) → (step_of s w).next ≡ w
stays s (Err (f, p)) none = refl
stays s (Ok w) none = let l = level_of w (length s) in stays_at w l.depth (start_of l.depth (drop w.place (take l.end s))) none

-- ---- whole walks

-- ---- where the fields lie
