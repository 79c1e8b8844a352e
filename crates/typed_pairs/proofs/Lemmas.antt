-- What a line is, by its length, its first byte and its parts.
-- Assumes nothing.
use Rattle.std.specs.Prelude.{◌≡◌, refl, List, [], ◌∷◌, ℕ, ℤ, length, Option, Some}
use Rattle.std.proofs.Common.{ap₂}
use Rattle.typed_pairs.specs.declared.TypedLine.{TypedLine}
use Rattle.typed_pairs.specs.Pairs.{pair_of}

pub more_behind : (word : Option ℕ) (figure : Option ℤ) (rest : List ℕ) (w : ℕ) (z : ℤ) → word ≡ Some w → figure ≡ Some z → (length rest ≡ 0 → ⊥)
    → pair_of word figure rest ≡ TypedLine.Unread
more_behind word figure [] w z e f n = absurd (n refl)
more_behind word figure (c ∷ t) w z e f n = ap₂ (λ (x : Option ℕ) (y : Option ℤ). pair_of x y (c ∷ t)) e f
