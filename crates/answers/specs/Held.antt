-- How the code finds an answer: by what the word holds. The same text and outcome as by the reason that is told.
-- Assumes nothing.
use Rattle.std.specs.Prelude.{◌≡◌, refl, Bool, true, false, List, ◌++◌, ℕ, ℤ, Option, Some, None, Result, Ok, Err}
use Rattle.refusals.specs.Numbers.{number_of}
use Rattle.quantities.specs.declared.Quantity.{Quantity}
use Rattle.records.specs.declared.Record.{Record}
use Rattle.refusals.specs.declared.Refusal.{Refusal}
use Rattle.readings.specs.Readings.{has_reading, reading_of}
use Rattle.quantities.specs.Nearest.{millionths_of}
use Rattle.measurements.specs.Measurements.{measurement_of}
use Rattle.agreements.specs.Agreement.{decoded_measurement}
use Rattle.reasons.specs.Scaled.{reason_of}
use Rattle.explanations.specs.Explanations.{held_under, held_in, count_agrees, explained_by}
use Rattle.text.specs.Ascii.{ascii}
use Rattle.numerals.specs.Digits.{decimal}
use Rattle.reason_texts.specs.ReasonTexts.{because_text}
use Rattle.answers.specs.Answers.{explained_text, figure_for}

abbrev pub held_text : Result (Quantity × ℤ) Refusal → ℤ → List ℕ
held_text (Ok (q, c)) figure = because_text (reason_of (count_agrees q c) figure) (millionths_of q c)
held_text (Err f) figure = ascii "refused " ++ decimal (number_of f)

held_under_lem : (m : Option (Quantity × ℤ)) (reading : Bool) (figure : ℤ) → held_text (held_under reading m) figure ≡ explained_text (explained_by (held_under reading m) figure) (figure_for m)
held_under_lem (Some (q, c)) true figure = refl
held_under_lem (Some (q, c)) false figure = refl
held_under_lem None reading figure = refl

pub held_in_lem : (d : Result Record Refusal) (figure : ℤ) → held_text (held_in d) figure ≡ explained_text (explained_by (held_in d) figure) (figure_for (decoded_measurement d))
held_in_lem (Ok r) figure = held_under_lem (measurement_of r.body) (has_reading (reading_of r.body)) figure
held_in_lem (Err f) figure = refl
