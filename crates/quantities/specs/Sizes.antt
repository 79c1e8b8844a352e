-- How large the figure printed for a count of 16 bits is at most, for the lengths of texts.
use Rattle.std.specs.Prelude.{◌+◌, ◌*◌, ◌^◌, ◌≤◌, ℤ, nat_abs}
use Rattle.std.proofs.Common.{mul-le-mul, arith}
use Rattle.rounding.specs.Parts.{is_negative, nat_abs_with_sign}
use Rattle.rounding.specs.Rounding.{round_even}
use Rattle.rounding.specs.Laws.{round_at-most}
use Rattle.quantities.specs.declared.Quantity.{Quantity}
use Rattle.quantities.specs.Scale.{scale_of, sound}
use Rattle.quantities.specs.Nearest.{millionths_of}

pub printed-size : (q : Quantity) (c : ℤ) → nat_abs c ≤ 2 ^ 15 → nat_abs (millionths_of q c) ≤ 2 ^ 42 + 1
unfolding millionths_of
printed-size q c h =
    let product : nat_abs c * (scale_of q).numerator ≤ 2 ^ 15 * 2 ^ 27 = mul-le-mul h (sound q).numerator_small in
    omega
    (arith, round_at-most (nat_abs c * (scale_of q).numerator) (scale_of q).denominator, nat_abs_with_sign (is_negative c) (round_even (nat_abs c * (scale_of q).numerator) (scale_of q).denominator))
