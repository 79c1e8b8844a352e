-- The chart point of two records.
-- Assumes nothing.
use Rattle.std.specs.Prelude.{Bool, cond, ◌&&◌, eqb, Option, Some, None, Result, Ok, Err, Float}
use Rattle.records.specs.All.{place_of}
use Rattle.records.specs.Kinds.{kind_of}
use Rattle.records.specs.declared.Body.{Body}
use Rattle.records.specs.declared.Kind.{Kind}
use Rattle.records.specs.declared.Record.{Record}
use Rattle.refusals.specs.declared.Refusal.{Refusal}
use Rattle.readings.specs.Readings.{reading_of}
use Rattle.readings.specs.declared.Reading.{Reading}
use Rattle.readings.specs.declared.Shown.{Shown}
use Rattle.chart.specs.declared.ChartPoint.{ChartPoint}

-- two kinds are the same: they have one place in document 01's table
abbrev pub is_kind : Kind → Kind → Bool
is_kind kind wanted = eqb (place_of kind) (place_of wanted)

-- the number of a reading in depth difference
abbrev pub difference_in : Reading → Option Float
difference_in (Reading.Degrees x) = None
difference_in (Reading.DepthDifference x) = Some x
difference_in (Reading.Millivolts x) = None
difference_in (Reading.Frequency f) = None
difference_in (Reading.Setting s) = None

-- of what is shown, ready or test
abbrev pub difference_of : Shown → Option Float
difference_of (Shown.Ready reading) = difference_in reading
difference_of (Shown.Test reading) = difference_in reading
difference_of Shown.Absent = None

-- 8 if one has no reading
abbrev pub joined : Option Float → Option Float → Result ChartPoint Refusal
joined (Some x) (Some y) = Ok (record { course = x; glide = y })
joined (Some x) None = Err Refusal.Reach
joined None glide = Err Refusal.Reach

abbrev pub are_course_and_glide : Body → Body → Bool
are_course_and_glide first second = is_kind (kind_of first) Kind.IlsCourse && is_kind (kind_of second) Kind.IlsGlide

-- 2 if they are not 173 and 174, 4 if their sources differ, 8 if one has no reading
abbrev pub chart_of : Record → Record → Result ChartPoint Refusal
chart_of first second =
    cond (are_course_and_glide first.body second.body)
    (cond (eqb first.source second.source)
    (joined (difference_of (reading_of first.body)) (difference_of (reading_of second.body)))
    (Err Refusal.Code))
    (Err Refusal.Label)
