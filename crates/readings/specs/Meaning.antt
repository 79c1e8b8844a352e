-- What document 01 says of a reading: when there is one, and what value it has, whichever operations made it.
-- Assumes nothing.
use Rattle.std.specs.Prelude.{◌≡◌, refl, ◌⊎◌, ◌↔◌, false, ℕ, T, eqb, ℤ, pos, ◌*ℤ◌, Float}
use Rattle.std.proofs.Common.{ap, subst, inl, inr}
use Rattle.std.proofs.lemmas.Bool.{eqb-false}
use Rattle.statuses.specs.Statuses.{binary_code}
use Rattle.records.specs.declared.Body.{Body}
use Rattle.statuses.specs.declared.Status.{Status}
use Rattle.doubles.specs.Exact.{IsExactly, IsCount}
use Rattle.doubles.specs.Nearest.{IsNearest}
use Rattle.views.specs.Views.{view_of}
use Rattle.views.specs.declared.Setting.{Setting}
use Rattle.views.specs.declared.Value.{Value}
use Rattle.views.specs.declared.View.{View}
use Rattle.readings.specs.Readings.{value_reading, shown_under, has_reading}
use Rattle.readings.specs.declared.Reading.{Reading}
use Rattle.readings.specs.declared.Shown.{Shown}

-- A body has this status. Parts have none, under any bits.
abbrev pub HasStatus : Body → Status → Type 0
HasStatus (Body.VorAzimuth status marker count) s = status ≡ s
HasStatus (Body.VorFrequency status frequency) s = status ≡ s
HasStatus (Body.IlsCourse status inhibit count) s = status ≡ s
HasStatus (Body.IlsGlide status inhibit count) s = status ≡ s
HasStatus (Body.IlsFrequency status category frequency) s = status ≡ s
HasStatus (Body.MlsFrequency status frequency) s = status ≡ s
HasStatus (Body.MlsAzimuthDeviation status inhibit clearance count) s = status ≡ s
HasStatus (Body.MlsGlideDeviation status inhibit clearance count) s = status ≡ s
HasStatus (Body.SelectedAzimuth status manual degrees) s = status ≡ s
HasStatus (Body.GreatestGlideAngle status tenths) s = status ≡ s
HasStatus (Body.SelectedGlideAngle status manual tenths) s = status ≡ s
HasStatus (Body.Part1 number content) s = ⊥
HasStatus (Body.Part2 content) s = ⊥
HasStatus (Body.Part3 content) s = ⊥
HasStatus (Body.Part4 good content) s = ⊥

-- a reading in degrees, exactly count × 45 / 1024
abbrev pub IsDegrees : ℤ → Reading → Type 0
IsDegrees count r = (x : Float) × (r ≡ Reading.Degrees x) × IsExactly x (count *ℤ pos 45) 1024

-- a reading in millivolts, exactly count × 75 / 1024
abbrev pub IsMillivolts : ℤ → Reading → Type 0
IsMillivolts count r = (x : Float) × (r ≡ Reading.Millivolts x) × IsExactly x (count *ℤ pos 75) 1024

-- a reading in depth difference, the double nearest to count / divisor
abbrev pub IsDifference : ℕ → ℤ → Reading → Type 0
IsDifference divisor count r = (x : Float) × (r ≡ Reading.DepthDifference x) × IsNearest x count divisor

-- A reading is that of a body: 222 in degrees, exactly count × 45 / 1024; 173 and 174 in depth difference, the double nearest to
-- count / 10240 and count / 5120; 151 and 152 in millivolts, exactly count × 75 / 1024; frequencies in tens of kHz; 153 in degrees,
-- 154 and 155 in tenths of a degree. A part has none.
abbrev pub IsReading : Body → Reading → Type 0
IsReading (Body.VorAzimuth status marker count) r = IsDegrees count.0 r
IsReading (Body.VorFrequency status frequency) r = r ≡ Reading.Frequency frequency
IsReading (Body.IlsCourse status inhibit count) r = IsDifference 10240 count.0 r
IsReading (Body.IlsGlide status inhibit count) r = IsDifference 5120 count.0 r
IsReading (Body.IlsFrequency status category frequency) r = r ≡ Reading.Frequency frequency
IsReading (Body.MlsFrequency status frequency) r = r ≡ Reading.Frequency frequency
IsReading (Body.MlsAzimuthDeviation status inhibit clearance count) r = IsMillivolts count.0 r
IsReading (Body.MlsGlideDeviation status inhibit clearance count) r = IsMillivolts count.0 r
IsReading (Body.SelectedAzimuth status manual degrees) r = r ≡ Reading.Setting (Setting.SelectedAzimuth manual degrees)
IsReading (Body.GreatestGlideAngle status tenths) r = r ≡ Reading.Setting (Setting.GreatestGlideAngle tenths)
IsReading (Body.SelectedGlideAngle status manual tenths) r = r ≡ Reading.Setting (Setting.SelectedGlideAngle manual tenths)
IsReading (Body.Part1 number content) r = ⊥
IsReading (Body.Part2 content) r = ⊥
IsReading (Body.Part3 content) r = ⊥
IsReading (Body.Part4 good content) r = ⊥

-- this reading is shown, marked as a test's or not
abbrev pub Holds : Shown → Reading → Type 0
Holds (Shown.Ready q) r = q ≡ r
Holds (Shown.Test q) r = q ≡ r
Holds Shown.Absent r = ⊥

-- What is shown, by the status and the reading that a body has: its reading under ready, its reading marked as a test's under test,
-- and nothing otherwise.
pub record ShownBy (Has : Status → Type 0) (Reads : Reading → Type 0) (shown : Shown) : Type 0 where
  pub ready : Has Status.Ready → (r : Reading) × (shown ≡ Shown.Ready r)
  pub test : Has Status.Test → (r : Reading) × (shown ≡ Shown.Test r)
  pub absent : (Has Status.Ready → ⊥) → (Has Status.Test → ⊥) → shown ≡ Shown.Absent
  pub right : (r : Reading) → Holds shown r → Reads r

abbrev pub Shows : Body → Shown → Type 0
Shows body shown = ShownBy (HasStatus body) (IsReading body) shown

-- there is a reading
abbrev pub HasReading : Shown → Type 0
HasReading shown = T (has_reading shown)

-- the reading is marked as a test's
abbrev pub IsTest : Shown → Type 0
IsTest (Shown.Ready r) = ⊥
IsTest (Shown.Test r) = Unit {0}
IsTest Shown.Absent = ⊥

-- a reading is that of a value which a record shows
abbrev pub Reads : Value → Reading → Type 0
Reads (Value.Azimuth count) r = IsDegrees count.0 r
Reads (Value.Course count) r = IsDifference 10240 count.0 r
Reads (Value.Glide count) r = IsDifference 5120 count.0 r
Reads (Value.MlsAzimuth count) r = IsMillivolts count.0 r
Reads (Value.MlsGlide count) r = IsMillivolts count.0 r
Reads (Value.Frequency frequency) r = r ≡ Reading.Frequency frequency
Reads (Value.Setting setting) r = r ≡ Reading.Setting setting

-- the definition's reading of a view's value is that of the value
abbrev pub ViewReads : View → Type 0
ViewReads (View.Value status value) = Reads value (value_reading value)
ViewReads (View.Part part content) = Unit {0}

-- the count, where a value has one, is of the 16 bits that a record holds it in
abbrev pub ValueFits : Value → Type 0
ValueFits (Value.Azimuth count) = IsCount count.0
ValueFits (Value.Course count) = IsCount count.0
ValueFits (Value.Glide count) = IsCount count.0
ValueFits (Value.MlsAzimuth count) = IsCount count.0
ValueFits (Value.MlsGlide count) = IsCount count.0
ValueFits (Value.Frequency frequency) = Unit {0}
ValueFits (Value.Setting setting) = Unit {0}

-- the same for a view, and for a body
abbrev pub ViewFits : View → Type 0
ViewFits (View.Value status value) = ValueFits value
ViewFits (View.Part part content) = Unit {0}

abbrev pub CountFits : Body → Type 0
CountFits body = ViewFits (view_of body)

-- ---- the fifteen kinds are of two sorts: with a status, which decides whether the reading is shown, and parts

-- two statuses of different codes are different
differ : {A : Type 0} (s t : Status) → eqb (binary_code s) (binary_code t) ≡ false → s ≡ t → A
differ s t h e = absurd (eqb-false (binary_code s) (binary_code t) h (ap binary_code e))

-- ---- the definition shows what document 01 says

pub shown-right : (s : Status) (R : Reading → Type 0) (F : Type 0) (r : Reading) → (F → R r) → F → ShownBy (λ t. s ≡ t) R (shown_under s r)
shown-right Status.Failure R F r k h = record {
  ready = differ Status.Failure Status.Ready refl;
  test = differ Status.Failure Status.Test refl;
  absent = λ a b. refl;
  right = λ q e. absurd e;
}
shown-right Status.NoData R F r k h = record {
  ready = differ Status.NoData Status.Ready refl;
  test = differ Status.NoData Status.Test refl;
  absent = λ a b. refl;
  right = λ q e. absurd e;
}
shown-right Status.Test R F r k h = record {
  ready = differ Status.Test Status.Ready refl;
  test = λ e. (r, refl);
  absent = λ a b. absurd (b refl);
  right = λ q e. subst R e (k h);
}
shown-right Status.Ready R F r k h = record {
  ready = λ e. (r, refl);
  test = differ Status.Ready Status.Test refl;
  absent = λ a b. absurd (a refl);
  right = λ q e. subst R e (k h);
}

-- ---- demand 2: a reading is shown exactly when the status says ready or test

pub shown_exactly : (s : Status) (R : Reading → Type 0) (F : Type 0) (r : Reading) → (F → R r) → HasReading (shown_under s r) ↔ ((s ≡ Status.Ready) ⊎ (s ≡ Status.Test))
shown_exactly Status.Failure R F r k = (λ h. absurd h, elim [ inl e ↦ differ Status.Failure Status.Ready refl e | inr e ↦ differ Status.Failure Status.Test refl e ])
shown_exactly Status.NoData R F r k = (λ h. absurd h, elim [ inl e ↦ differ Status.NoData Status.Ready refl e | inr e ↦ differ Status.NoData Status.Test refl e ])
shown_exactly Status.Test R F r k = (λ h. inr refl, λ e. tt)
shown_exactly Status.Ready R F r k = (λ h. inl refl, λ e. tt)

-- ---- a reading is marked as a test's exactly when the status says test

pub marked_exactly : (s : Status) (R : Reading → Type 0) (F : Type 0) (r : Reading) → (F → R r) → IsTest (shown_under s r) ↔ (s ≡ Status.Test)
marked_exactly Status.Failure R F r k = (λ h. absurd h, differ Status.Failure Status.Test refl)
marked_exactly Status.NoData R F r k = (λ h. absurd h, differ Status.NoData Status.Test refl)
marked_exactly Status.Test R F r k = (λ h. refl, λ e. tt)
marked_exactly Status.Ready R F r k = (λ h. absurd h, differ Status.Ready Status.Test refl)
