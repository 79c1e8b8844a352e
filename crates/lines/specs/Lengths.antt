-- How long these lines are at most, so that the place behind a whole listing cannot pass the largest number.
-- Assumes nothing.
use Rattle.std.specs.Prelude.{ℕ, ◌^◌, ◌≤◌, ◌<◌, length}
use Rattle.std.proofs.Common.{arith, length-append}
use Rattle.refusals.specs.Numbers.{number_of}
use Rattle.refusals.proofs.Numbers.{number-bounds}
use Rattle.refusals.specs.declared.Refusal.{Refusal}
use Rattle.numerals.specs.Theorems.{decimal-length}
use Rattle.verdicts.specs.declared.Verdict.{Verdict}
use Rattle.lines.specs.Lines.{verdict_line, total_line, refusal_line}

pub verdict_line_length : (v : Verdict) → length (verdict_line v) ≤ 17
verdict_line_length Verdict.Agrees = omega arith
verdict_line_length Verdict.Differs = omega arith
verdict_line_length Verdict.Unmatched = omega arith

pub total_line_length : (words refused : ℕ) → words < 2 ^ 64 → refused < 2 ^ 64 → length (total_line words refused) ≤ 56
total_line_length words refused a b = simp length-append (omega (arith, decimal-length 19 words (omega arith), decimal-length 19 refused (omega arith)))

pub refusal_line_length : (f : Refusal) (place : ℕ) → place < 2 ^ 64 → length (refusal_line f place) ≤ 41
refusal_line_length f place h =
    simp length-append (omega (arith, decimal-length 1 (number_of f) (omega (arith, (number-bounds f).1)), decimal-length 19 place (omega arith)))
