-- Document 01's starred lines, words and figures, with request 3's in place of the MLS figures that it withdraws and with frequencies on and off
-- the raster of request 5, each with its record, its count or its refusal: one table, proved by one computed equation.
-- Assumes nothing.
use Rattle.std.specs.Prelude.{◌≡◌, refl, map}
use Rattle.std.specs.Int.Count.{ones_in}
use Rattle.rounding.specs.Rounding.{round_even}
use Rattle.labels.specs.Table.{row_of}
use Rattle.quantities.specs.Nearest.{line_nearest, wrap, circle_nearest, nearest_count, millionths_of}
use Rattle.demands.specs.Starred.{starred, answer_of}

pub starred-lines : map (λ l. answer_of l.asked) starred ≡ map (λ l. l.answer) starred
unfolding ones_in row_of nearest_count millionths_of line_nearest circle_nearest wrap round_even
starred-lines = refl
