-- Each of the 64 bits of a group is one bit of one part's content.
use Rattle.std.specs.Prelude.{ℕ, suc, ◌+◌, ◌*◌, ◌-◌, ◌^◌, ◌/◌, ◌%◌, ◌<◌, ◌≡◌, List, [], ◌∷◌, get_or}
use Rattle.std.proofs.Common.{sym, ap, ◌∙◌, mul_assoc, arith, pow_pos, pow-add, shr-shr}
use Rattle.std.proofs.Math.Nat.{add-mul-div_left, add-mul-mod_self_left, div-eq_of_lt, zero-div}
use Rattle.std.proofs.Math.Decide.{dec_lt}

-- contents of 16 bits each, the first lowest
abbrev joined : List ℕ → ℕ
joined [] = 0
joined (x ∷ xs) = x + 2 ^ 16 * joined xs

abbrev Contents : List ℕ → Type 0
Contents [] = Unit {0}
Contents (x ∷ xs) = (x < 2 ^ 16) × Contents xs

-- a bit below the width w is the lowest content's
low_bit : (w i x y : ℕ) → i < w → (x + 2 ^ w * y) / 2 ^ i % 2 ≡ x / 2 ^ i % 2
low_bit w i x y h = rw (split, mul_assoc, add-mul-div_left x _ (pow_pos i), mul_assoc, add-mul-mod_self_left)
  where
    split : 2 ^ w ≡ 2 ^ i * (2 * 2 ^ (w - suc i))
    split = ap (λ (n : ℕ). 2 ^ n) (omega arith) ∙ pow-add 2 i (1 + (w - suc i)) ∙ ap (λ (n : ℕ). 2 ^ i * n) (pow-add 2 1 (w - suc i))

-- a bit above the width w is the rest's
high_bit : (w k x y : ℕ) → x < 2 ^ w → (x + 2 ^ w * y) / 2 ^ (w + k) ≡ y / 2 ^ k
high_bit w k x y h = sym (shr-shr (x + 2 ^ w * y) w k) ∙ ap (λ (n : ℕ). n / 2 ^ k) (add-mul-div_left x y (pow_pos w) ∙ rw (div-eq_of_lt h) (omega arith))

pub joined-bit : (xs : List ℕ) → Contents xs → (i : ℕ) → joined xs / 2 ^ i % 2 ≡ get_or xs (i / 16) 0 / 2 ^ (i % 16) % 2
joined-bit [] hs i = simp zero-div
joined-bit (x ∷ xs) hs i = at (dec_lt i 16) (joined-bit xs hs.1 (i - 16))
  where
    at : Dec (i < 16) → joined xs / 2 ^ (i - 16) % 2 ≡ get_or xs ((i - 16) / 16) 0 / 2 ^ ((i - 16) % 16) % 2
        → joined (x ∷ xs) / 2 ^ i % 2 ≡ get_or (x ∷ xs) (i / 16) 0 / 2 ^ (i % 16) % 2
    at (yes l) ih =
        let q : i / 16 ≡ 0 = omega arith in
        let r : i % 16 ≡ i = omega arith in
        rw (q, r) (low_bit 16 i x (joined xs) l)
    at (no g) ih =
        let q : i / 16 ≡ suc ((i - 16) / 16) = omega arith in
        let r : i % 16 ≡ (i - 16) % 16 = omega arith in
        let e : i ≡ 16 + (i - 16) = omega arith in
        rw (q, r) (ap (λ (n : ℕ). joined (x ∷ xs) / 2 ^ n % 2) e ∙ ap (λ (n : ℕ). n % 2) (high_bit 16 (i - 16) x (joined xs) hs.0) ∙ ih)
