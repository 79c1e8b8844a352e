-- Numbers as bytes, high byte first, for any number of bytes: each direction is the other's inverse.
-- Assumes nothing.
use Rattle.std.specs.Prelude.{◌≡◌, refl, List, [], ◌∷◌, ℕ, zero, suc, ◌+◌, ◌*◌, ◌^◌, ◌<◌, length}
use Rattle.std.proofs.Common.{ap, subst, arith, lit<}
use Rattle.bits.specs.Fields.{digits}
use Rattle.bits.specs.Laws.{widen}

-- the n bytes of v, high first
abbrev pub big_endian : ℕ → ℕ → List ℕ
big_endian zero v = []
big_endian (suc n) v = digits (8 * n) 8 v ∷ big_endian n v

-- the number whose bytes these are, high first
abbrev pub value_of : List ℕ → ℕ
value_of [] = 0
value_of (b ∷ bs) = b * 2 ^ (8 * length bs) + value_of bs

-- each is a byte
abbrev pub Bytes : List ℕ → Type 0
Bytes [] = Unit {0}
Bytes (b ∷ bs) = (b < 256) × Bytes bs

pub length_bytes : (n v : ℕ) → length (big_endian n v) ≡ n
length_bytes zero v = refl
length_bytes (suc n) v = ap suc (length_bytes n v)

-- one more byte above 8 * n bits
pub wider : (n : ℕ) → 8 + 8 * n ≡ 8 * suc n
wider n = omega arith

-- bytes make a number of as many times 8 bits
pub value-lt : (bs : List ℕ) → Bytes bs → value_of bs < 2 ^ (8 * length bs)
value-lt [] h = lit< tt
value-lt (b ∷ bs) h =
    subst (λ (n : ℕ). value_of (b ∷ bs) < 2 ^ n) (wider (length bs))
    (widen b (value_of bs) 8 (8 * length bs) h.0 (value-lt bs h.1))
