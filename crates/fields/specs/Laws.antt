-- The laws of a run of bytes that others cite: what its start says, and one step without the number of steps.
-- Assumes nothing.
use Rattle.std.specs.Prelude.{◌≡◌, true, List, [], ◌∷◌, ℕ, ◌+◌, ◌*◌, ◌-◌, ◌≤◌, ◌<◌, length, Some, Option, None, Result, Ok, Err}
use Rattle.refusals.specs.declared.Refusal.{Refusal}
use Rattle.refusals.specs.Numbers.{number_of}
use Rattle.fields.specs.declared.FieldKind.{FieldKind}
use Rattle.fields.specs.Start.{kind_of_tag, length_allowed, depth_allowed}

-- ---- what a run's start says

-- what stands at the start of a run: nothing, a refusal of a field, or a field's header with a tag that is known, a content that fits, and a length and a depth that are allowed
pub data StartView (d : ℕ) : List ℕ → Result (Option (FieldKind × ℕ)) Refusal → Type 0 where
  at_end : StartView d [] (Ok None)
  refused : (f : Refusal) (bs : List ℕ) → (9 ≤ number_of f) × (number_of f ≤ 12) → 0 < length bs → StartView d bs (Err f)
  header : (t h l : ℕ) (w : List ℕ) (k : FieldKind) → kind_of_tag t ≡ Some k → h * 256 + l ≤ length w → length_allowed k (h * 256 + l) ≡ true → depth_allowed k d ≡ true
      → StartView d (t ∷ h ∷ l ∷ w) (Ok (Some (k, h * 256 + l)))

-- a field stands where the header is whole and known, its content fits, and its length and depth are allowed
pub record WholeField (d : ℕ) (bs : List ℕ) (k : FieldKind) (n : ℕ) : Type 0 where
  pub room : 3 + n ≤ length bs
  pub long : length_allowed k n ≡ true
  pub deep : depth_allowed k d ≡ true

-- ---- one step, whatever the number of steps
