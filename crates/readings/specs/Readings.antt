-- The reading of a record's body, by its kind and status.
-- Assumes nothing.
use Rattle.std.specs.Prelude.{◌≡◌, refl, Bool, true, false, ℤ}
use Rattle.records.specs.declared.Body.{Body}
use Rattle.statuses.specs.declared.Status.{Status}
use Rattle.doubles.specs.Doubles.{degrees_of, course_of, glide_of, millivolts_of}
use Rattle.views.specs.Views.{is_shown, view_of}
use Rattle.views.specs.declared.Value.{Value}
use Rattle.views.specs.declared.View.{View}
use Rattle.readings.specs.declared.Reading.{Reading}
use Rattle.readings.specs.declared.Shown.{Shown}

-- 222: count × 45 / 1024 degrees
abbrev pub azimuth_reading : ℤ → Reading
azimuth_reading count = Reading.Degrees (degrees_of count)

-- 173: count / 10240
abbrev pub course_reading : ℤ → Reading
course_reading count = Reading.DepthDifference (course_of count)

-- 174: count / 5120
abbrev pub glide_reading : ℤ → Reading
glide_reading count = Reading.DepthDifference (glide_of count)

-- 151 and 152: count × 75 / 1024 mV
abbrev pub mls_reading : ℤ → Reading
mls_reading count = Reading.Millivolts (millivolts_of count)

abbrev pub value_reading : Value → Reading
value_reading (Value.Azimuth count) = azimuth_reading count.0
value_reading (Value.Course count) = course_reading count.0
value_reading (Value.Glide count) = glide_reading count.0
value_reading (Value.MlsAzimuth count) = mls_reading count.0
value_reading (Value.MlsGlide count) = mls_reading count.0
value_reading (Value.Frequency frequency) = Reading.Frequency frequency
value_reading (Value.Setting setting) = Reading.Setting setting

-- a reading is there exactly under ready and test, and test is marked
abbrev pub shown_under : Status → Reading → Shown
shown_under Status.Failure reading = Shown.Absent
shown_under Status.NoData reading = Shown.Absent
shown_under Status.Test reading = Shown.Test reading
shown_under Status.Ready reading = Shown.Ready reading

-- there is a reading
abbrev pub has_reading : Shown → Bool
has_reading (Shown.Ready reading) = true
has_reading (Shown.Test reading) = true
has_reading Shown.Absent = false

-- parts have none
abbrev pub shown_in : View → Shown
shown_in (View.Value status value) = shown_under status (value_reading value)
shown_in (View.Part part content) = Shown.Absent

abbrev pub reading_of : Body → Shown
reading_of body = shown_in (view_of body)

-- a status shows a reading exactly where a value is shown under it (`is_shown` of `views`)
pub shown_under_lem : (s : Status) (r : Reading) → has_reading (shown_under s r) ≡ is_shown s
shown_under_lem Status.Failure r = refl
shown_under_lem Status.NoData r = refl
shown_under_lem Status.Test r = refl
shown_under_lem Status.Ready r = refl
