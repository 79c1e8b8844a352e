-- The numbers of a reading; `shown-back` says that they stand for that reading.
-- Assumes nothing.
use Rattle.std.specs.Prelude.{◌≡◌, refl, cond, ℕ, eqb, Float, ℤ, pos, nat_abs, Result, Ok, Err}
use Rattle.std.specs.Float.{binary64}
use Rattle.std.specs.Float.Ieee.{of_bits}
use Rattle.codes.specs.Codes.{flag_bit}
use Rattle.refusals.specs.Numbers.{number_of}
use Rattle.decode.specs.Decode.{decode_of}
use Rattle.records.specs.declared.Record.{Record}
use Rattle.refusals.specs.declared.Refusal.{Refusal}
use Rattle.readings.specs.Readings.{reading_of}
use Rattle.readings.specs.declared.Reading.{Reading}
use Rattle.views.specs.declared.Setting.{Setting}
use Rattle.readings.specs.declared.Shown.{Shown}
use Rattle.flat_readings.specs.declared.FlatReading.{FlatReading}

-- the double 0
abbrev pub nought : Float
nought = of_bits binary64 0

-- a reading in doubles, and one in whole numbers: zero in every field that is not named
abbrev pub rounded : ℕ → ℕ → Float → FlatReading
rounded shown unit value = record { refusal = 0; shown = shown; unit = unit; manual = 0; whole = pos 0; value = value }

abbrev pub whole : ℕ → ℕ → ℕ → ℤ → FlatReading
whole shown unit manual number = record { refusal = 0; shown = shown; unit = unit; manual = manual; whole = number; value = nought }

-- 5 a selected azimuth in degrees, 6 the greatest glide angle and 7 a selected one in tenths of a degree
abbrev pub flat_setting : ℕ → Setting → FlatReading
flat_setting shown (Setting.SelectedAzimuth manual degrees) = whole shown 5 (flag_bit manual) (pos degrees)
flat_setting shown (Setting.GreatestGlideAngle tenths) = whole shown 6 0 (pos tenths)
flat_setting shown (Setting.SelectedGlideAngle manual tenths) = whole shown 7 (flag_bit manual) (pos tenths)

-- 1 degrees, 2 depth difference, 3 millivolts, 4 tens of kHz, 5 to 7 a setting
abbrev pub flat_reading : ℕ → Reading → FlatReading
flat_reading shown (Reading.Degrees x) = rounded shown 1 x
flat_reading shown (Reading.DepthDifference x) = rounded shown 2 x
flat_reading shown (Reading.Millivolts x) = rounded shown 3 x
flat_reading shown (Reading.Frequency f) = whole shown 4 0 (pos f)
flat_reading shown (Reading.Setting s) = flat_setting shown s

-- no reading
abbrev pub absent : ℕ → FlatReading
absent number = record { refusal = number; shown = 0; unit = 0; manual = 0; whole = pos 0; value = nought }

-- 1 ready, 2 test, 0 none
abbrev pub flat_shown : Shown → FlatReading
flat_shown (Shown.Ready reading) = flat_reading 1 reading
flat_shown (Shown.Test reading) = flat_reading 2 reading
flat_shown Shown.Absent = absent 0

abbrev pub flat_read : Result Record Refusal → FlatReading
flat_read (Ok r) = flat_shown (reading_of r.body)
flat_read (Err f) = absent (number_of f)

-- the numbers of a word's reading
abbrev pub reading_in : ℕ → FlatReading
reading_in w = flat_read (decode_of w)

-- ---- nothing is lost

-- the reading that numbers stand for
abbrev pub reading_from : FlatReading → Reading
reading_from f =
    cond (eqb f.unit 1) (Reading.Degrees f.value)
    (cond (eqb f.unit 2) (Reading.DepthDifference f.value)
    (cond (eqb f.unit 3) (Reading.Millivolts f.value)
    (cond (eqb f.unit 4) (Reading.Frequency (nat_abs f.whole))
    (cond (eqb f.unit 5) (Reading.Setting (Setting.SelectedAzimuth (eqb f.manual 1) (nat_abs f.whole)))
    (cond (eqb f.unit 6) (Reading.Setting (Setting.GreatestGlideAngle (nat_abs f.whole)))
    (Reading.Setting (Setting.SelectedGlideAngle (eqb f.manual 1) (nat_abs f.whole))))))))

abbrev pub shown_from : FlatReading → Shown
shown_from f = cond (eqb f.shown 1) (Shown.Ready (reading_from f)) (cond (eqb f.shown 2) (Shown.Test (reading_from f)) Shown.Absent)

pub shown_as : (n : ℕ) (r : Reading) → (flat_reading n r).shown ≡ n
shown_as n (Reading.Degrees x) = refl
shown_as n (Reading.DepthDifference x) = refl
shown_as n (Reading.Millivolts x) = refl
shown_as n (Reading.Frequency f) = refl
shown_as n (Reading.Setting (Setting.SelectedAzimuth m d)) = refl
shown_as n (Reading.Setting (Setting.GreatestGlideAngle t)) = refl
shown_as n (Reading.Setting (Setting.SelectedGlideAngle m t)) = refl
