-- `quantities::nearest_on_line` goes by the test of `line_nearest`; within reach every product is small.
use Rattle.std.specs.Prelude.{Some}
use mathlib.Core.Path.{◌≡◌, sym, ap, ap₂, ◌∙◌}
use Prim.Native.Nat.{min}
use native.Mathlib.Omega.{arith}
use Rattle.rounding.specs.Parts.{with_sign}
use Rattle.rounding.specs.Rounding.{rounded-over}
use Rattle.quantities.specs.Scale.{last_count}
use Rattle.quantities.specs.Cases.{line_within, line_beyond}
use Rattle.quantities.proofs.Products.{step_positive, last_within}
use Rattle.quantities.proofs.Signed.{count-back}
use Rattle.quantities.proofs.nearest_on_line.Goals as goal

pub returns-then-last-numerator : goal.returns-then-last-numerator
returns-then-last-numerator c =
    let a = c.args in
    sym (line_beyond a.scale a.negative a.size (rw c.last_count-last.ensures at c.if-last-numerator.true))

pub returns : goal.returns
returns c =
    let a = c.args in
    let last : c.last_count-last.result ≡ last_count a.scale a.negative = c.last_count-last.ensures in
    ap Some
    (count-back c.count_with_sign.result a.negative c.min.result
    (omega (arith, last_within a.scale c.requires a.negative, c.min.ensures, last))
    c.count_with_sign.ensures
    ∙ ap (with_sign a.negative) (c.min.ensures ∙ ap₂ min (c.round_half_even-rounded.ensures ∙ rounded-over _ _ (step_positive a.scale c.requires)) last))
    ∙ sym (line_within a.scale a.negative a.size (rw last at c.if-last-numerator.false))
