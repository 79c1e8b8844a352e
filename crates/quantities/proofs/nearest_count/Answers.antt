-- `quantities::nearest_count` goes by the test of `nearest_count`, with the quantity's scale and the figure's sign and size.
use Rattle.std.specs.Prelude.{Option}
use mathlib.Core.Path.{◌≡◌, sym, ap, ap₂, ◌∙◌}
use mathlib.Core.Bool.{Bool}
use Prim.Native.Nat.{ℕ}
use lib.IntN.{ℤ, nat_abs}
use mir.Syntax.{w64}
use mir.Val.{SFits, to_z, of_z}
use mir.Facts.{to_z-of_z}
use Rattle.rounding.specs.Parts.{is_negative}
use Rattle.quantities.specs.declared.Scale.{Scale}
use Rattle.quantities.specs.Nearest.{line_nearest, circle_nearest}
use Rattle.quantities.specs.Cases.{nearest_circle, nearest_line}
use Rattle.quantities.proofs.nearest_count.Goals as goal

-- the scale, the sign and the size as they came from the calls
called : (f : Scale → Bool → ℕ → Option ℤ) {s t : Scale} {negative : Bool} {size : ℕ} (figure : ℤ) → SFits w64 figure → s ≡ t → negative ≡ is_negative (to_z w64 (of_z w64 figure)) → size ≡ nat_abs (to_z w64 (of_z w64 figure)) → f s negative size ≡ f t (is_negative figure) (nat_abs figure)
called f {s} {t} figure fits scale sign size =
    ap₂ (λ (x : Scale) (g : Scale → Option ℤ). g x) scale
    (ap₂ (λ (b : Bool) (n : ℕ). λ (x : Scale). f x b n) sign size)
    ∙ ap (λ (z : ℤ). f t (is_negative z) (nat_abs z)) (to_z-of_z fits)

pub returns-then-is_on_circle : goal.returns-then-is_on_circle
returns-then-is_on_circle c =
    c.nearest_on_circle.ensures
    ∙ called circle_nearest c.args.figure c.ranges.figure c.scale_of-scale.ensures c.is_negative-negative.ensures c.magnitude-size.ensures
    ∙ sym (nearest_circle c.args.quantity c.args.figure (sym c.is_on_circle.ensures ∙ c.if-is_on_circle.true))

pub returns : goal.returns
returns c =
    c.nearest_on_line.ensures
    ∙ called line_nearest c.args.figure c.ranges.figure c.scale_of-scale.ensures c.is_negative-negative.ensures c.magnitude-size.ensures
    ∙ sym (nearest_line c.args.quantity c.args.figure (sym c.is_on_circle.ensures ∙ c.if-is_on_circle.false))
