-- What the listing says of a figure field, and which words it counts as refused.
-- Assumes nothing.
use Rattle.std.specs.Prelude.{Bool, true, false, ◌&&◌, cond, ℕ, eqb, ℤ, Option, Some, None, Result, Ok, Err}
use Rattle.labels.specs.Label.{label_of}
use Rattle.decode.specs.Decode.{decode_of}
use Rattle.quantities.specs.declared.Quantity.{Quantity}
use Rattle.records.specs.declared.Record.{Record}
use Rattle.refusals.specs.declared.Refusal.{Refusal}
use Rattle.readings.specs.Readings.{has_reading, reading_of}
use Rattle.quantities.specs.Nearest.{nearest_count}
use Rattle.measurements.specs.Measurements.{measurement_of}
use Rattle.agreements.specs.Agreement.{agrees_of, is_nearest}
use Rattle.verdicts.specs.declared.Verdict.{Verdict}

-- a measured word: it holds a count of a quantity
abbrev pub is_measured : Option (Quantity × ℤ) → Bool
is_measured (Some (q, c)) = true
is_measured None = false

-- an accepted measured word of this label, with a reading. Sources are not compared.
abbrev pub comparable : Result Record Refusal → ℕ → ℕ → Bool
comparable (Ok r) wordLabel label = eqb wordLabel label && (is_measured (measurement_of r.body) && has_reading (reading_of r.body))
comparable (Err f) wordLabel label = false

abbrev pub is_comparable : ℕ → ℕ → Bool
is_comparable w label = comparable (decode_of w) (label_of w) label

-- the verdict on a figure in millionths, by the field just before it in its group
abbrev pub verdict_of : Option ℕ → ℕ → ℤ → Verdict
verdict_of (Some w) label millionths =
    cond (is_comparable w label) (cond (agrees_of w millionths) Verdict.Agrees Verdict.Differs) Verdict.Unmatched
verdict_of None label millionths = Verdict.Unmatched

-- a word that decoding refuses
abbrev pub is_refused : Result Record Refusal → Bool
is_refused (Ok r) = false
is_refused (Err f) = true

-- ---- how the code finds it: behind a word of this label with a reading, by what the word measures. `Theorems` says that this is the same.

abbrev pub measurement_verdict : Option (Quantity × ℤ) → ℤ → Verdict
measurement_verdict (Some (q, c)) millionths = cond (is_nearest (nearest_count q millionths) c) Verdict.Agrees Verdict.Differs
measurement_verdict None millionths = Verdict.Unmatched
