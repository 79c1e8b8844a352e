-- The start of a run from a place on, by the bytes at that place.
-- Assumes nothing.
use Rattle.std.specs.Prelude.{◌≡◌, refl, List, [], ◌∷◌, ℕ, ◌-◌, ◌≤◌, ◌<◌, length, drop, None, Ok, Err}
use Rattle.std.proofs.Common.{arith, length-drop}
use Rattle.refusals.specs.declared.Refusal.{Refusal}
use Rattle.fields.specs.Start.{start_of}

none_left : (d : ℕ) (xs : List ℕ) → length xs ≡ 0 → start_of d xs ≡ Ok None
none_left d [] h = refl
none_left d (x ∷ xs) h = absurd (omega arith)

two_left : (d : ℕ) (xs : List ℕ) → 0 < length xs → length xs < 3 → start_of d xs ≡ Err Refusal.Truncated
two_left d [] h k = absurd (omega arith)
two_left d (x ∷ []) h k = refl
two_left d (x ∷ y ∷ []) h k = refl
two_left d (x ∷ y ∷ z ∷ xs) h k = absurd (omega arith)

module _ (d at : ℕ) (run : List ℕ) where
  -- past the last byte stands the end
  pub start_end : length run ≤ at → start_of d (drop at run) ≡ Ok None
  start_end h =
      let left : length (drop at run) ≡ length run - at = length-drop at run in
      none_left d (drop at run) (omega arith)

  -- one or two bytes are a cut header
  pub start_cut : at < length run → length run - at < 3 → start_of d (drop at run) ≡ Err Refusal.Truncated
  start_cut h k =
      let left : length (drop at run) ≡ length run - at = length-drop at run in
      two_left d (drop at run) (omega arith) (omega arith)
