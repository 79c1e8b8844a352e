-- What rounding half to even gives, for every number and every divisor above 0. The errors are compared by the positive and negative
-- parts of the signed numbers, where two different multiples of d differ by d at least.
use Rattle.std.specs.Prelude.{◌≡◌, ℕ, ◌-◌, ◌≤◌, ◌<◌, ℤ, nat_abs, ◌≤ℤ◌}
use Rattle.std.proofs.Common.{subst, arith}
use Rattle.std.specs.Int.Signed.{≤ℤ_refl}
use Rattle.rounding.specs.Parts.{is_negative, with_sign, with_sign_nat_abs, parts-equal, parts-le, le_parts}
use Rattle.rounding.specs.Rounding.{round_even, round_even_ℤ, Rounded}
use Rattle.rounding.specs.Laws.{error-parts, Separate, separate, rounded-signed, same, below, above}

-- what rounding gives is at most one half off, and even where it is one half off
pub rounded : (z : ℤ) (d : ℕ) → 0 < d → Rounded z d (round_even_ℤ z d)
unfolding round_even_ℤ
rounded z d pd =
    subst (λ (x : ℤ). Rounded x d (with_sign (is_negative z) (round_even (nat_abs z) d))) (with_sign_nat_abs z)
    (rounded-signed (is_negative z) (nat_abs z) d pd)

-- a larger number is never rounded to a smaller one
pub monotone : (z y : ℤ) (d : ℕ) → 0 < d → z ≤ℤ y → round_even_ℤ z d ≤ℤ round_even_ℤ y d
monotone z y d pd h = go (separate (round_even_ℤ z d) (round_even_ℤ y d) d)
  where
    go : Separate (round_even_ℤ z d) (round_even_ℤ y d) d → round_even_ℤ z d ≤ℤ round_even_ℤ y d
    go (same e) = subst (λ (k : ℤ). round_even_ℤ z d ≤ℤ k) e (≤ℤ_refl (round_even_ℤ z d))
    go (below l p) = parts-le (round_even_ℤ z d) (round_even_ℤ y d) (omega arith)
    go (above l p) =
        let e : z ≡ y =
        parts-equal z y
        (omega
        (arith, le_parts z y h, p, (rounded z d pd).near, (rounded y d pd).near, error-parts z d (round_even_ℤ z d), error-parts y d (round_even_ℤ y d))) in
        subst (λ (x : ℤ). round_even_ℤ z d ≤ℤ round_even_ℤ x d) e (≤ℤ_refl (round_even_ℤ z d))
