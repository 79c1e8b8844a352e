-- What document 01 says of a reading: when there is one, and what value it has, whichever operations made it.
-- Assumes nothing.
use Rattle.std.specs.Prelude.{◌≡◌, refl, ◌⊎◌, ◌↔◌}
use Rattle.std.proofs.Common.{inl, inr}
use Rattle.records.specs.declared.Body.{Body}
use Rattle.statuses.specs.declared.Status.{Status}
use Rattle.doubles.specs.Doubles.{degrees_of, course_of, glide_of, millivolts_of}
use Rattle.doubles.proofs.Doubles.{degrees_exact, course_nearest, glide_nearest, millivolts_exact}
use Rattle.views.specs.Views.{view_of}
use Rattle.views.specs.declared.Setting.{Setting}
use Rattle.views.specs.declared.Value.{Value}
use Rattle.views.specs.declared.View.{View}
use Rattle.readings.specs.Readings.{value_reading, shown_under, reading_of}
use Rattle.readings.specs.declared.Reading.{Reading}
use Rattle.readings.specs.declared.Shown.{Shown}
use Rattle.readings.specs.Meaning.{HasStatus, IsReading, ShownBy, Shows, HasReading, IsTest, Reads, ViewReads, ValueFits, ViewFits, CountFits, shown-right, shown_exactly, marked_exactly}

module _ (P : (Status → Type 0) → (Reading → Type 0) → Type 0 → Shown → Type 0)
    (status-word : (s : Status) (R : Reading → Type 0) (F : Type 0) (r : Reading) → (F → R r) → P (λ t. s ≡ t) R F (shown_under s r))
    (part : (R : Reading → Type 0) (F : Type 0) → P (λ t. ⊥) R F Shown.Absent) where
  by_kind : (b : Body) → P (HasStatus b) (IsReading b) (ViewReads (view_of b)) (reading_of b)
  by_kind (Body.VorAzimuth s m n) = status-word s _ _ _ (λ h. h)
  by_kind (Body.VorFrequency s f) = status-word s _ _ _ (λ h. h)
  by_kind (Body.IlsCourse s i n) = status-word s _ _ _ (λ h. h)
  by_kind (Body.IlsGlide s i n) = status-word s _ _ _ (λ h. h)
  by_kind (Body.IlsFrequency s c f) = status-word s _ _ _ (λ h. h)
  by_kind (Body.MlsFrequency s f) = status-word s _ _ _ (λ h. h)
  by_kind (Body.MlsAzimuthDeviation s i c n) = status-word s _ _ _ (λ h. h)
  by_kind (Body.MlsGlideDeviation s i c n) = status-word s _ _ _ (λ h. h)
  by_kind (Body.SelectedAzimuth s m d) = status-word s _ _ _ (λ h. h)
  by_kind (Body.GreatestGlideAngle s t) = status-word s _ _ _ (λ h. h)
  by_kind (Body.SelectedGlideAngle s m t) = status-word s _ _ _ (λ h. h)
  by_kind (Body.Part1 n c) = part _ _
  by_kind (Body.Part2 c) = part _ _
  by_kind (Body.Part3 c) = part _ _
  by_kind (Body.Part4 g c) = part _ _

-- of a body whose value's reading is right
pub shows_right : (b : Body) → ViewReads (view_of b) → Shows b (reading_of b)
shows_right =
    by_kind (λ S R F shown. F → ShownBy S R shown) shown-right
    (λ R F h. record { ready = λ e. absurd e; test = λ e. absurd e; absent = λ a b. refl; right = λ q e. absurd e })

-- which it is where the count has 16 bits
pub value_reads : (v : Value) → ValueFits v → Reads v (value_reading v)
value_reads (Value.Azimuth n) h = (degrees_of n.0, refl, degrees_exact n.0 h)
value_reads (Value.Course n) h = (course_of n.0, refl, course_nearest n.0 h)
value_reads (Value.Glide n) h = (glide_of n.0, refl, glide_nearest n.0 h)
value_reads (Value.MlsAzimuth n) h = (millivolts_of n.0, refl, millivolts_exact n.0 h)
value_reads (Value.MlsGlide n) h = (millivolts_of n.0, refl, millivolts_exact n.0 h)
value_reads (Value.Frequency f) h = refl
value_reads (Value.Setting s) h = refl

view_reads : (v : View) → ViewFits v → ViewReads v
view_reads (View.Value s v) h = value_reads v h
view_reads (View.Part p c) h = tt

pub reading_right : (b : Body) → CountFits b → Shows b (reading_of b)
reading_right b h = shows_right b (view_reads (view_of b) h)

pub reading_exactly : (b : Body) → HasReading (reading_of b) ↔ (HasStatus b Status.Ready ⊎ HasStatus b Status.Test)
reading_exactly = by_kind (λ S R F shown. HasReading shown ↔ (S Status.Ready ⊎ S Status.Test)) shown_exactly (λ R F. (λ h. absurd h, elim [ inl e ↦ e | inr e ↦ e ]))

pub test_exactly : (b : Body) → IsTest (reading_of b) ↔ HasStatus b Status.Test
test_exactly = by_kind (λ S R F shown. IsTest shown ↔ S Status.Test) marked_exactly (λ R F. (λ h. absurd h, λ e. absurd e))
