-- Worked figures in millionths, beside the starred lines (crate `demands`): an MLS figure below 0, an azimuth just below a whole turn, and the
-- ties of printing, which go to the even millionth.
use Rattle.std.specs.Prelude.{◌≡◌, refl, map}
use Rattle.rounding.specs.Rounding.{round_even}
use Rattle.quantities.specs.Nearest.{line_nearest, wrap, circle_nearest, nearest_count, millionths_of}
use Rattle.quantities.specs.Examples.{examples, computed}

-- every answer is the computed one
pub examples_hold : map computed examples ≡ examples
unfolding examples computed nearest_count millionths_of line_nearest circle_nearest wrap round_even
examples_hold = refl
