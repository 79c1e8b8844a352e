-- How the code finds a verdict, and what a word must be for a figure to be compared with it.
-- Assumes nothing.
use Rattle.std.specs.Prelude.{◌≡◌, refl, Bool, true, ◌&&◌, cond, ◌↔◌, ℕ, eqb, ℤ, Some, Result, Ok, Err}
use Rattle.std.proofs.Common.{sym, ap, ap₂, ◌∙◌, eqb-true, eq-eqb}
use Rattle.bits.specs.Laws.{both_true}
use Rattle.records.specs.declared.Record.{Record}
use Rattle.labels.proofs.Assignment.{document01}
use Rattle.labels.specs.Label.{label_of}
use Rattle.decode.specs.Decode.{decode_of}
use Rattle.refusals.specs.declared.Refusal.{Refusal}
use Rattle.readings.specs.Readings.{has_reading, reading_of}
use Rattle.measurements.specs.Measurements.{measurement_of}
use Rattle.agreements.specs.Agreement.{decoded_measurement, holds_nearest}
use Rattle.agreements.specs.Agreeing.{agrees-tested}
use Rattle.verdicts.specs.declared.Verdict.{Verdict}
use Rattle.verdicts.specs.Verdicts.{is_measured, comparable, is_comparable, verdict_of, measurement_verdict}
use Rattle.verdicts.specs.Theorems.{by_measurement, Comparable, never}

-- so an accepted word is compared by its label, by whether it has a reading, and by what it measures
pub accepted_verdict : (w label : ℕ) (z : ℤ) {r : Record} (l : ℕ) (h b : Bool) → decode_of w ≡ Ok r → l ≡ label_of w → h ≡ has_reading (reading_of r.body) → eqb l label && h ≡ b
    → cond b (measurement_verdict (measurement_of r.body) z) Verdict.Unmatched ≡ verdict_of (Some w) label z
accepted_verdict w label z {r} l h b d e k t =
    ap (λ (x : Bool). cond x (measurement_verdict (measurement_of r.body) z) Verdict.Unmatched)
    (sym t ∙ ap₂ (λ (x : ℕ) (y : Bool). eqb x label && y) e k)
    ∙ by_measurement (measurement_of r.body) (eqb (label_of w) label) (has_reading (reading_of r.body)) z
    ∙ sym
    (ap (λ (x : Bool). cond (is_comparable w label) (cond x Verdict.Agrees Verdict.Differs) Verdict.Unmatched) (agrees-tested document01 z w)
    ∙ ap (λ (x : Result Record Refusal). cond (comparable x (label_of w) label) (cond (holds_nearest (decoded_measurement x) z) Verdict.Agrees Verdict.Differs) Verdict.Unmatched) d)

pub comparable_exactly : (w label : ℕ) → (is_comparable w label ≡ true) ↔ Comparable w label
comparable_exactly w label = (there (decode_of w) refl, here)
  where
    there : (d : Result Record Refusal) → decode_of w ≡ d → comparable d (label_of w) label ≡ true → Comparable w label
    there (Ok r) e t =
        let b = both_true (eqb (label_of w) label) (is_measured (measurement_of r.body) && has_reading (reading_of r.body)) t in
        let d = both_true (is_measured (measurement_of r.body)) (has_reading (reading_of r.body)) b.1 in
        record { «record» = r; accepted = e; label_same = eqb-true (label_of w) label b.0; is_measured = d.0; has_reading = d.1 }
    there (Err f) e t = never t

    here : Comparable w label → is_comparable w label ≡ true
    here c =
        ap (λ (d : Result Record Refusal). comparable d (label_of w) label) c.accepted
        ∙ ap₂ (λ (x y : Bool). x && y) (eq-eqb (label_of w) label c.label_same) (ap₂ (λ (x y : Bool). x && y) c.is_measured c.has_reading)
