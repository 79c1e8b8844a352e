-- `quantities::millionths`: a count of 16 bits times a sound scale's numerator is small, and so is what it is rounded to.
use mathlib.Core.Path.{◌≡◌, ap, subst⁻¹, ◌∙◌}
use mathlib.Core.Bool.{Bool}
use Prim.Native.Nat.{ℕ, ◌*◌, ◌≤◌, ◌^◌}
use native.Mathlib.Omega.{arith}
use borrow.Author.Rules.{rules}
use lib.IntN.{ℤ, nat_abs}
use mir.Syntax.{w16, w64}
use mir.Val.{SFits, to_z, of_z}
use mir.Facts.{to_z-of_z}
use Rattle.quantities.specs.declared.Quantity.{Quantity}
use Rattle.quantities.specs.declared.Scale.{Scale}
use Rattle.rounding.specs.Laws.{round_at-most}
use Rattle.rounding.specs.Parts.{is_negative, with_sign}
use Rattle.rounding.specs.Rounding.{round_even, rounded-over}
use Rattle.quantities.proofs.Products.{count_product}
use Rattle.quantities.proofs.Signed.{widened, count-size}
use Rattle.quantities.specs.Scale.{Sound, sound, scale_of}
use Rattle.quantities.specs.Nearest.{millionths_of}
use Rattle.quantities.proofs.millionths.Goals as goal

sound_scale : (s : Scale) (q : Quantity) → s ≡ scale_of q → Sound s
sound_scale s q e = subst⁻¹ Sound e (sound q)

product : (s : Scale) (q : Quantity) → s ≡ scale_of q → (z : ℤ) → SFits w16 z → (size : ℕ) → size ≡ nat_abs (to_z w64 (of_z w64 (to_z w16 (of_z w16 z)))) → size * s.numerator ≤ 32768 * 2 ^ 27
product s q e z f size h = count_product s (sound_scale s q e) size (omega (arith, h ∙ ap nat_abs (widened z f), count-size z f))

printed : (q : Quantity) {z y : ℤ} {s : Scale} {m r : ℕ} {n : Bool} {w : ℤ} → y ≡ z → s ≡ scale_of q → m ≡ nat_abs y → r ≡ round_even (m * s.numerator) s.denominator → n ≡ is_negative y → w ≡ with_sign n r → w ≡ millionths_of q z
unfolding millionths_of
printed q e scale size rounded sign number = cc

pub with_sign-requires : goal.with_sign-requires
with_sign-requires c =
    let scale = c.scale_of-scale in
    let size = c.magnitude in
    omega
    (arith, c.round_half_even-size.ensures ∙ rounded-over _ _ (sound_scale scale.result c.args.quantity scale.ensures).divisor, round_at-most (size.result * scale.result.numerator) scale.result.denominator, product scale.result c.args.quantity scale.ensures c.args.count c.ranges.count size.result size.ensures)

pub returns : goal.returns
returns c =
    let scale = c.scale_of-scale in
    to_z-of_z {w = w64} {z = c.with_sign.result} (search rules)
    ∙ printed c.args.quantity (widened c.args.count c.ranges.count) scale.ensures c.magnitude.ensures (c.round_half_even-size.ensures ∙ rounded-over _ _ (sound_scale scale.result c.args.quantity scale.ensures).divisor) c.is_negative.ensures c.with_sign.ensures
