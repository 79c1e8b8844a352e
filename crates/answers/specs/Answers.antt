-- What is answered to a typed line of a word and a figure, byte by byte, and what the line is counted as.
-- Assumes nothing.
use Rattle.std.specs.Prelude.{◌≡◌, cond, List, [], ◌++◌, ℕ, eqb, ℤ, pos, Option, Some, None, Result, Ok, Err}
use Rattle.std.proofs.Common.{ap}
use Rattle.refusals.specs.Numbers.{number_of}
use Rattle.labels.proofs.Assignment.{document01}
use Rattle.quantities.specs.Nearest.{millionths_of}
use Rattle.quantities.specs.declared.Quantity.{Quantity}
use Rattle.reasons.specs.declared.Reason.{Reason}
use Rattle.refusals.specs.declared.Refusal.{Refusal}
use Rattle.agreements.specs.Agreement.{word_measurement}
use Rattle.reasons.specs.Reasons.{number_of as reasonNumber}
use Rattle.explanations.specs.Explanations.{explained_of}
use Rattle.reason_texts.specs.ReasonTexts.{because_text}
use Rattle.text.specs.Ascii.{ascii}
use Rattle.hex_texts.specs.HexTexts.{word_text}
use Rattle.numerals.specs.Digits.{decimal, signed_fixed}
use Rattle.typed_pairs.specs.Pairs.{line_of}
use Rattle.typed_pairs.specs.declared.TypedLine.{TypedLine}
use Rattle.answers.specs.declared.Outcome.{Outcome}

-- why, or the refusal's number
abbrev pub explained_text : Result Reason Refusal → ℤ → List ℕ
explained_text (Ok r) figure = because_text r figure
explained_text (Err f) figure = ascii "refused " ++ decimal (number_of f)

-- the figure that a count is printed as, in millionths (none is shown where nothing is measured)
abbrev pub figure_for : Option (Quantity × ℤ) → ℤ
figure_for (Some (q, c)) = millionths_of q c
figure_for None = pos 0

-- a word and a figure as they are written again
abbrev pub pair_text : ℕ → ℤ → List ℕ
pair_text w figure = (word_text w ++ ascii " ") ++ signed_fixed 6 figure ++ ascii ": "

-- the answer to a word and a figure
abbrev pub pair_answer : ℕ → ℤ → List ℕ
pair_answer w figure = pair_text w figure ++ explained_text (explained_of w figure) (figure_for (word_measurement document01 w)) ++ ascii "\n"

-- the answer to a line that is none, by its number
abbrev pub unread_answer : ℕ → List ℕ
unread_answer number = (ascii "line " ++ decimal number) ++ ascii ": no word and figure\n"

abbrev pub typed_answer : ℕ → TypedLine → List ℕ
typed_answer number TypedLine.Passed = []
typed_answer number (TypedLine.Pair w figure) = pair_answer w figure
typed_answer number TypedLine.Unread = unread_answer number

-- the answer to the line of this number
unfoldable pub answer_text : ℕ → List ℕ → List ℕ
answer_text number line = typed_answer number (line_of line)

-- what an answer is counted as
abbrev pub explained_outcome : Result Reason Refusal → Outcome
explained_outcome (Ok r) = cond (eqb (reasonNumber r) 1) Outcome.Agrees Outcome.Disagrees
explained_outcome (Err f) = Outcome.Refused

abbrev pub typed_outcome : TypedLine → Outcome
typed_outcome TypedLine.Passed = Outcome.Passed
typed_outcome (TypedLine.Pair w figure) = explained_outcome (explained_of w figure)
typed_outcome TypedLine.Unread = Outcome.Unread

unfoldable pub outcome_of : List ℕ → Outcome
outcome_of line = typed_outcome (line_of line)

-- ---- what the proofs of the writers cite

pub answer_read : (number : ℕ) (line : List ℕ) {typed : TypedLine} → typed ≡ line_of line → typed_answer number typed ≡ answer_text number line
unfolding answer_text
answer_read number line e = ap (typed_answer number) e

pub outcome_read : (line : List ℕ) {typed : TypedLine} → typed ≡ line_of line → typed_outcome typed ≡ outcome_of line
unfolding outcome_of
outcome_read line e = ap typed_outcome e
