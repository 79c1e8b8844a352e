-- Each arm by its value (`arm`).
use mathlib.Core.Path.{◌≡◌, sym, ap, ◌∙◌, subst⁻¹}
use borrow.Author.Rules.{rules}
use Rattle.views.specs.declared.Value.{Value}
use Rattle.readings.specs.Readings.{value_reading}
use Rattle.readings.specs.Meaning.{Reads, ValueFits}
use Rattle.readings.proofs.Meaning.{value_reads}
use Rattle.readings.specs.declared.Reading.{Reading}
use Rattle.record_readings.proofs.value_reading.Goals as goal

-- in an arm of the match the value is a known one
arm : {v w : Value} {r : Reading} → v ≡ w → r ≡ value_reading w → ValueFits w → (r ≡ value_reading v) × Reads v r
arm {v} {w} {r} e p h = (p ∙ sym (ap value_reading e), subst⁻¹ (λ (u : Value). Reads u r) e (subst⁻¹ (Reads w) p (value_reads w h)))

pub returns-in-Azimuth-clause-values : goal.returns-in-Azimuth-clause-values
returns-in-Azimuth-clause-values c =
    (arm c.in-Azimuth.is c.azimuth_reading.ensures (search rules)).1

pub returns-in-Course-clause-values : goal.returns-in-Course-clause-values
returns-in-Course-clause-values c =
    (arm c.in-Course.is c.course_reading.ensures (search rules)).1

pub returns-in-Glide-clause-values : goal.returns-in-Glide-clause-values
returns-in-Glide-clause-values c =
    (arm c.in-Glide.is c.glide_reading.ensures (search rules)).1

pub returns-in-MlsAzimuth-clause-values : goal.returns-in-MlsAzimuth-clause-values
returns-in-MlsAzimuth-clause-values c =
    (arm c.in-MlsAzimuth.is c.mls_reading.ensures (search rules)).1

pub returns-in-MlsGlide-clause-values : goal.returns-in-MlsGlide-clause-values
returns-in-MlsGlide-clause-values c =
    (arm c.in-MlsGlide.is c.mls_reading-in-MlsGlide.ensures (search rules)).1
