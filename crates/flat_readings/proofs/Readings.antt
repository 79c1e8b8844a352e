-- The numbers of a reading; `shown-back` says that they stand for that reading.
-- Assumes nothing.
use Rattle.std.specs.Prelude.{◌≡◌, refl, true, false, ℕ}
use Rattle.readings.specs.declared.Reading.{Reading}
use Rattle.views.specs.declared.Setting.{Setting}
use Rattle.readings.specs.declared.Shown.{Shown}
use Rattle.flat_readings.specs.Readings.{flat_reading, flat_shown, reading_from, shown_from, shown_as}

reading_back : (n : ℕ) (r : Reading) → reading_from (flat_reading n r) ≡ r
reading_back n (Reading.Degrees x) = refl
reading_back n (Reading.DepthDifference x) = refl
reading_back n (Reading.Millivolts x) = refl
reading_back n (Reading.Frequency f) = refl
reading_back n (Reading.Setting (Setting.SelectedAzimuth false d)) = refl
reading_back n (Reading.Setting (Setting.SelectedAzimuth true d)) = refl
reading_back n (Reading.Setting (Setting.GreatestGlideAngle t)) = refl
reading_back n (Reading.Setting (Setting.SelectedGlideAngle false t)) = refl
reading_back n (Reading.Setting (Setting.SelectedGlideAngle true t)) = refl

-- the numbers of what is shown stand for it
pub shown-back : (s : Shown) → shown_from (flat_shown s) ≡ s
shown-back (Shown.Ready r) = rw (shown_as 1 r, reading_back 1 r)
shown-back (Shown.Test r) = rw (shown_as 2 r, reading_back 2 r)
shown-back Shown.Absent = refl
