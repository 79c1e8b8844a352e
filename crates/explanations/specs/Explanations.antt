-- Why a figure and a word agree or do not: the word's own refusal, then 2 for a word that measures none of the five quantities, then 8 for one without a reading; then the first reason
-- that holds. Stated over any assignment of labels.
-- Assumes nothing.
use Rattle.std.specs.Prelude.{Bool, cond, ℕ, ℤ, Option, Some, None, Result, Ok, Err}
use Rattle.refusals.specs.declared.Refusal.{Refusal}
use Rattle.labels.specs.Assignment.{Assignment}
use Rattle.labels.proofs.Assignment.{document01}
use Rattle.decode.specs.Decode.{decode_with}
use Rattle.reasons.specs.declared.Reason.{Reason}
use Rattle.records.specs.declared.Record.{Record}
use Rattle.quantities.specs.Nearest.{nearest_count}
use Rattle.quantities.specs.declared.Quantity.{Quantity}
use Rattle.measurements.specs.Measurements.{measurement_of}
use Rattle.readings.specs.Readings.{has_reading, reading_of}
use Rattle.agreements.specs.Agreement.{is_nearest}
use Rattle.reasons.specs.Scaled.{reason_of}

-- what is held, by whether there is a reading
abbrev pub held_under : Bool → Option (Quantity × ℤ) → Result (Quantity × ℤ) Refusal
held_under reading (Some (q, c)) = cond reading (Ok (q, c)) (Err Refusal.Reach)
held_under reading None = Err Refusal.Label

abbrev pub held_in : Result Record Refusal → Result (Quantity × ℤ) Refusal
held_in (Ok r) = held_under (has_reading (reading_of r.body)) (measurement_of r.body)
held_in (Err f) = Err f

-- whether a count of a quantity is the one nearest to a figure
abbrev pub count_agrees : Quantity → ℤ → ℤ → Bool
count_agrees q c figure = is_nearest (nearest_count q figure) c

abbrev pub explained_by : Result (Quantity × ℤ) Refusal → ℤ → Result Reason Refusal
explained_by (Ok (q, c)) figure = Ok (reason_of (count_agrees q c) figure)
explained_by (Err f) figure = Err f

-- why a figure in millionths and a word agree or do not
abbrev pub explained_with : Assignment → ℕ → ℤ → Result Reason Refusal
explained_with a w figure = explained_by (held_in (decode_with a w)) figure

-- under document 01's labels
abbrev pub explained_of : ℕ → ℤ → Result Reason Refusal
explained_of w figure = explained_with document01 w figure
