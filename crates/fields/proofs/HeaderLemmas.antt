-- The start of a run from a place on, by the bytes at that place.
-- Assumes nothing.
use Rattle.std.specs.Prelude.{◌≡◌, List, ◌∷◌, ℕ, suc, ◌+◌, ◌*◌, ◌-◌, ◌≤◌, ◌<◌, length, get_or, drop}
use Rattle.std.proofs.Common.{ap, ◌∙◌, arith, length-drop, drop-cons}
use Rattle.fields.specs.Start.{kind_of_tag, judged, start_of}

module _ (d at : ℕ) (run : List ℕ) where
  -- three bytes are a tag and a length, high byte first
  pub start_header : at + 3 ≤ length run
      → start_of d (drop at run) ≡ judged (kind_of_tag (get_or run at 0)) (get_or run (at + 1) 0 * 256 + get_or run (at + 2) 0) (length run - at - 3) d
  start_header h =
      let left : length (drop (at + 3) run) ≡ length run - at - 3 = length-drop (at + 3) run ∙ omega arith in
      ap (start_of d) (three h) ∙ ap (λ (n : ℕ). judged (kind_of_tag (get_or run at 0)) (get_or run (at + 1) 0 * 256 + get_or run (at + 2) 0) n d) left
    where
      next : (i j : ℕ) → suc i ≡ j → i < length run → drop i run ≡ get_or run i 0 ∷ drop j run
      next i j e h = drop-cons run i 0 h ∙ ap (λ (n : ℕ). get_or run i 0 ∷ drop n run) e

      three : at + 3 ≤ length run → drop at run ≡ get_or run at 0 ∷ get_or run (at + 1) 0 ∷ get_or run (at + 2) 0 ∷ drop (at + 3) run
      three h =
          next at (at + 1) (omega arith) (omega arith)
          ∙ ap (λ (xs : List ℕ). get_or run at 0 ∷ xs)
          (next (at + 1) (at + 2) (omega arith) (omega arith)
          ∙ ap (λ (xs : List ℕ). get_or run (at + 1) 0 ∷ xs) (next (at + 2) (at + 3) (omega arith) (omega arith)))
