-- What the proofs cite: parts and multiples by the sign and size that the code has found.
-- Assumes nothing.
use Rattle.std.specs.Prelude.{Option, None}
use mathlib.Core.Path.{◌≡◌, sym, ap, ap₂, subst, ◌∙◌}
use mathlib.Core.Bool.{Bool, true, false, not, cond}
use mathlib.Core.Logic.{◌≢◌}
use Prim.Native.Nat.{ℕ, ◌*◌, ◌/◌, ◌%◌, ◌^◌, ◌≤◌, ◌<◌}
use native.Mathlib.Nat.{div-lt_iff_lt-mul, le-div_iff_mul-le}
use native.Mathlib.Omega.{arith}
use borrow.Author.Tests.{eq-eqb, ne_eqb}
use lib.IntN.{ℤ, nat_abs}
use Rattle.rounding.specs.Parts.{is_negative}
use Rattle.signed_numbers.specs.Signed.{signed_of, greatest}
use Rattle.signed_numbers.proofs.SignedTheorems.{signed_large}
use Rattle.reasons.specs.Scaled.{part_of, multiple_of, opposite_of}

above_greatest : (negative : Bool) (x : ℕ) → 2 ^ 63 < x → greatest negative < x
above_greatest true x h = h
above_greatest false x h = omega arith

-- The code's y is the figure z that its 64 bits hold.
module _ {y z : ℤ} (same : y ≡ z) (n : ℕ) {size : ℕ} (sized : size ≡ nat_abs y) where
  size_of : size ≡ nat_abs z
  size_of = sized ∙ ap nat_abs same

  pub part_none : size % n ≢ 0 → None ≡ part_of n z
  part_none k =
      ap (λ (t : Bool). cond t (signed_of (is_negative z) (nat_abs z / n)) None)
      (sym (ne_eqb (nat_abs z % n) 0 (λ e. k (ap (λ (x : ℕ). x % n) size_of ∙ e))))

  pub multiple_none : 0 < n → 9223372036854775808 / n < size → None ≡ multiple_of n z
  multiple_none p k =
      let large : 9223372036854775808 < nat_abs z * n = subst (λ (x : ℕ). 9223372036854775808 < x * n) size_of ((div-lt_iff_lt-mul p).0 k) in
      sym (signed_large (is_negative z) (nat_abs z * n) (above_greatest (is_negative z) (nat_abs z * n) (omega arith)))

  module _ {negative : Bool} (signed : negative ≡ is_negative y) {r : Option ℤ} where
    pub part-whole : r ≡ signed_of negative (size / n) → size % n ≡ 0 → r ≡ part_of n z
    part-whole f k =
        f ∙ ap₂ (λ (b : Bool) (x : ℕ). signed_of b (x / n)) (signed ∙ ap is_negative same) size_of
        ∙ ap (λ (t : Bool). cond t (signed_of (is_negative z) (nat_abs z / n)) None)
        (sym (eq-eqb (nat_abs z % n) 0 (ap (λ (x : ℕ). x % n) (sym size_of) ∙ k)))

    pub multiple_found : r ≡ signed_of negative (size * n) → r ≡ multiple_of n z
    multiple_found f = f ∙ ap₂ (λ (b : Bool) (x : ℕ). signed_of b (x * n)) (signed ∙ ap is_negative same) size_of

pub opposite_found : {y z : ℤ} → y ≡ z → {size : ℕ} → size ≡ nat_abs y → {negative : Bool} → negative ≡ is_negative y
    → {r : Option ℤ} → r ≡ signed_of (not negative) size → r ≡ opposite_of z
opposite_found same h g f = f ∙ ap₂ (λ (b : Bool) (x : ℕ). signed_of (not b) x) (g ∙ ap is_negative same) (h ∙ ap nat_abs same)

-- a product that is not past 2 ^ 63 is one of 64 bits
pub multiple_small : (size n : ℕ) → 0 < n → size ≤ 9223372036854775808 / n → size * n < 2 ^ 64
multiple_small size n p h = let small : size * n ≤ 9223372036854775808 = (le-div_iff_mul-le p).0 h in omega arith
