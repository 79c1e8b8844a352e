-- The numbers of a chart point, or of its refusal.
-- Assumes nothing.
use Rattle.std.specs.Prelude.{Result, Ok, Err}
use Rattle.refusals.specs.Numbers.{number_of}
use Rattle.chart.specs.declared.ChartPoint.{ChartPoint}
use Rattle.refusals.specs.declared.Refusal.{Refusal}
use Rattle.flat_readings.specs.Readings.{nought}
use Rattle.flat_points.specs.declared.FlatPoint.{FlatPoint}

abbrev pub flat_point : Result ChartPoint Refusal → FlatPoint
flat_point (Ok p) = record { refusal = 0; course = p.course; glide = p.glide }
flat_point (Err f) = record { refusal = number_of f; course = nought; glide = nought }
