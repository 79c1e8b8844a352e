-- `quantities::nearest_on_circle` goes by the test of `circle_nearest`; less than a turn times the denominator is small.
use Rattle.std.specs.Prelude.{Some}
use mathlib.Core.Path.{sym, ap, ◌∙◌}
use borrow.Author.Rules.{rules}
use mir.Syntax.{w16}
use mir.Facts.{to_z-of_z}
use Rattle.rounding.specs.Rounding.{rounded-over}
use Rattle.quantities.specs.Nearest.{wrap}
use Rattle.quantities.specs.Cases.{circle_within, circle_beyond}
use Rattle.quantities.proofs.Products.{step_positive}
use Rattle.quantities.proofs.nearest_on_circle.Goals as goal

pub returns-then-farthest_azimuth-size : goal.returns-then-farthest_azimuth-size
returns-then-farthest_azimuth-size c =
    let a = c.args in
    sym (circle_beyond a.scale a.negative a.size (rw c.farthest_azimuth.ensures at c.if-farthest_azimuth-size.true))

pub returns : goal.returns
returns c =
    let a = c.args in
    ap Some
    (to_z-of_z {w = w16} (search rules)
    ∙ c.wrapped.ensures
    ∙ ap (wrap a.scale a.negative) (c.round_half_even-rounded.ensures ∙ rounded-over _ _ (step_positive a.scale c.requires)))
    ∙ sym (circle_within a.scale a.negative a.size (rw c.farthest_azimuth.ensures at c.if-farthest_azimuth-size.false))
