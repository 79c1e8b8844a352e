-- Worked lines: a course deviation of 0.1 (label 173, ready) beside figures of each of the nine reasons, and lines that are refused, unread and passed over.
-- Assumes nothing.
use Rattle.std.specs.Prelude.{◌≡◌, refl, [], ◌∷◌, map}
use Rattle.std.specs.Int.Count.{ones_in}
use Rattle.rounding.specs.Rounding.{round_even}
use Rattle.labels.specs.Table.{row_of}
use Rattle.quantities.specs.Nearest.{line_nearest, nearest_count, millionths_of}
use Rattle.signed_numbers.specs.Signed.{signed_of}
use Rattle.reasons.specs.Scaled.{reason_of}
use Rattle.numerals.specs.Digits.{decimal}
use Rattle.typed_texts.specs.Numbers.{digit_of}
use Rattle.typed_figures.specs.Figures.{parts_read, figure_of}
use Rattle.typed_pairs.specs.Pairs.{pair_in, line_of}
use Rattle.answers.specs.Answers.{answer_text, outcome_of}
use Rattle.answers.specs.declared.Outcome.{Outcome}
use Rattle.answers.specs.Examples.{lines}

pub lines-answered : map (λ l. answer_text 4 l.line) lines ≡ map (λ l. l.answer) lines
unfolding answer_text line_of pair_in figure_of parts_read digit_of signed_of decimal ones_in row_of reason_of nearest_count millionths_of line_nearest round_even
lines-answered = refl

-- and what they are counted as
pub lines-counted : map (λ l. outcome_of l.line) lines
    ≡ Outcome.Agrees ∷ Outcome.Disagrees ∷ Outcome.Disagrees ∷ Outcome.Disagrees ∷ Outcome.Disagrees ∷ Outcome.Disagrees ∷ Outcome.Disagrees ∷ Outcome.Disagrees ∷ Outcome.Disagrees ∷ Outcome.Refused ∷ Outcome.Unread ∷ Outcome.Passed ∷ []
unfolding outcome_of line_of pair_in figure_of parts_read digit_of signed_of ones_in row_of reason_of nearest_count line_nearest round_even
lines-counted = refl
