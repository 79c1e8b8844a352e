-- How long an answer is at most, so that a buffer can be given that holds the answers to many lines.
-- Assumes nothing.
use Rattle.std.specs.Prelude.{◌≡◌, refl, List, [], ◌∷◌, ℕ, suc, ◌*◌, ◌^◌, ◌≤◌, ◌<◌, ℤ, length}
use Rattle.std.proofs.Common.{inl, arith, length-append}
use Rattle.labels.proofs.Assignment.{document01}
use Rattle.agreements.specs.Agreement.{word_measurement}
use Rattle.signed_numbers.specs.Signed.{Fits}
use Rattle.explanations.specs.Explanations.{explained_of}
use Rattle.numerals.specs.Digits.{signed_fixed}
use Rattle.numerals.specs.Theorems.{signed-length}
use Rattle.typed_pairs.specs.Pairs.{line_of}
use Rattle.typed_pairs.proofs.Theorems.{passed_exactly, pair_within}
use Rattle.typed_pairs.specs.declared.TypedLine.{TypedLine}
use Rattle.answers.specs.Answers.{figure_for, pair_answer, typed_answer, answer_text}
use Rattle.answers.specs.Lengths.{fits-length, word_figure_size, explained_length, unread_length}

pair_length : (w : ℕ) (z : ℤ) → Fits z → length (pair_answer w z) ≤ 90
pair_length w z h =
    let figure = figure_for (word_measurement document01 w) in
    let said : length (signed_fixed 6 figure) ≤ 15 = omega (arith, signed-length 6 6 figure (omega (arith, word_figure_size w))) in
    simp length-append (omega (arith, fits-length z h, explained_length (explained_of w z) figure said))

-- An answer has 64 bytes at most for each byte of its line and the line feed behind it.
pub answer-length : (n : ℕ) (line : List ℕ) → n < 2 ^ 64 → length (answer_text n line) ≤ 64 * suc (length line)
unfolding answer_text
answer-length n line h = go (line_of line) refl
  where
    some : (l : List ℕ) (w : ℕ) (z : ℤ) → line_of l ≡ TypedLine.Pair w z → 0 < length l
    some [] w z e = let passed = (passed_exactly []).1 (inl refl) in let k : ◌≡◌ {A = ℕ} 0 1 = cc in absurd (omega arith)
    some (c ∷ l) w z e = omega arith

    go : (t : TypedLine) → line_of line ≡ t → length (typed_answer n t) ≤ 64 * suc (length line)
    go TypedLine.Passed e = omega arith
    go (TypedLine.Pair w z) e = omega (arith, pair_length w z (pair_within line w z e).1, some line w z e)
    go TypedLine.Unread e = omega (arith, unread_length n h)
