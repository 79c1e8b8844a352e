-- What makes the definitions of `Numbers` believable: each digit weighs a power of the base, and a number that is read is no greater than the greatest.
-- Assumes nothing.
use Rattle.std.specs.Prelude.{◌≡◌, refl, Bool, true, false, ◌&&◌, List, [], ◌∷◌, ℕ, ◌+◌, ◌-◌, ◌*◌, ◌≤◌, ◌<◌, leb, Some}
use Rattle.std.proofs.Common.{ap, add-mul, mul_assoc, arith, leb-true, le-ltb, le-leb}
use Rattle.typed_texts.specs.Numbers.{digit_of, value_of, are_digits, numeral, numeral_of}

pub weigh : (base n d p q v : ℕ) → q ≡ base * p → (n * base + d) * p + v ≡ n * q + ((0 * base + d) * p + v)
weigh base n d p q v e =
    let sum : (n * base + d) * p ≡ n * base * p + d * p = add-mul (n * base) d p in
    let product : n * base * p ≡ n * (base * p) = mul_assoc n base p in
    let alone : (0 * base + d) * p ≡ d * p = ap (λ (x : ℕ). x * p) (omega arith) in
    let power : n * q ≡ n * (base * p) = ap (λ (x : ℕ). n * x) e in
    omega arith

-- A number that is read is no greater than the greatest.
pub read_within : (base most : ℕ) (t : List ℕ) (n : ℕ) → Some n ≡ numeral_of base most t → n ≤ most
read_within base most [] n k = let z : ◌≡◌ {A = ℕ} 0 1 = cc in absurd (omega arith)
read_within base most (c ∷ t) n k = go (are_digits base (c ∷ t)) (leb (value_of base (c ∷ t)) most) refl k
  where
    go : (a b : Bool) → leb (value_of base (c ∷ t)) most ≡ b → Some n ≡ numeral (a && b) (value_of base (c ∷ t)) → n ≤ most
    go true true e k = let same : n ≡ value_of base (c ∷ t) = cc in omega (arith, leb-true (value_of base (c ∷ t)) most e)
    go true false e k = let z : ◌≡◌ {A = ℕ} 0 1 = cc in absurd (omega arith)
    go false b e k = let z : ◌≡◌ {A = ℕ} 0 1 = cc in absurd (omega arith)

-- The decimal digits are the bytes `0` to `9`.
pub decimal_digit : (c : ℕ) → 48 ≤ c → c < 58 → digit_of c ≡ c - 48
unfolding digit_of
decimal_digit c h l = rw (le-ltb c 48 h, le-leb c 57 (omega arith)) refl
