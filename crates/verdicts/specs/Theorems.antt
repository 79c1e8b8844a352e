-- How the code finds a verdict, and what a word must be for a figure to be compared with it.
-- Assumes nothing.
use Rattle.std.specs.Prelude.{◌≡◌, refl, Bool, true, false, ◌&&◌, cond, ℕ, ℤ, Option, Some, None, Result, Ok, Err}
use Rattle.std.proofs.Common.{sym, ap, arith}
use Rattle.records.specs.declared.Record.{Record}
use Rattle.refusals.specs.declared.Refusal.{Refusal}
use Rattle.labels.specs.Label.{label_of}
use Rattle.decode.specs.Decode.{decode_of}
use Rattle.quantities.specs.declared.Quantity.{Quantity}
use Rattle.readings.specs.Readings.{has_reading, reading_of}
use Rattle.measurements.specs.Measurements.{measurement_of}
use Rattle.agreements.specs.Agreement.{agrees_of, holds_nearest}
use Rattle.verdicts.specs.declared.Verdict.{Verdict}
use Rattle.verdicts.specs.Verdicts.{is_measured, comparable, verdict_of, measurement_verdict}

-- ---- how the code finds the verdict

-- behind a word of this label with a reading, the verdict is that of its measurement
pub by_measurement : (m : Option (Quantity × ℤ)) (same reading : Bool) (z : ℤ)
    → cond (same && reading) (measurement_verdict m z) Verdict.Unmatched
    ≡ cond (same && (is_measured m && reading)) (cond (holds_nearest m z) Verdict.Agrees Verdict.Differs) Verdict.Unmatched
by_measurement (Some (q, c)) same reading z = refl
by_measurement None true true z = refl
by_measurement None true false z = refl
by_measurement None false reading z = refl

-- and behind a refused word a figure is unmatched
pub refused_verdict : (w label : ℕ) (z : ℤ) (f : Refusal) → decode_of w ≡ Err f → Verdict.Unmatched ≡ verdict_of (Some w) label z
refused_verdict w label z f d =
    sym (ap (λ (x : Result Record Refusal). cond (comparable x (label_of w) label) (cond (agrees_of w z) Verdict.Agrees Verdict.Differs) Verdict.Unmatched) d)

-- ---- what the verdicts mean

-- a word that a figure of this label is compared with: accepted, of that label, measured, and with a reading
pub record Comparable (w label : ℕ) : Type 0 where
  pub «record» : Record
  pub accepted : decode_of w ≡ Ok «record»
  pub label_same : label_of w ≡ label
  pub is_measured : is_measured (measurement_of «record».body) ≡ true
  pub has_reading : has_reading (reading_of «record».body) ≡ true

pub never : {A : Type 0} → false ≡ true → A
never e = absurd (let z : ◌≡◌ {A = ℕ} 0 1 = cc in omega arith)
