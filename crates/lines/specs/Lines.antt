-- The lines of the listing beside those of words, byte by byte.
-- Assumes nothing.
use Rattle.std.specs.Prelude.{List, ◌++◌, ℕ}
use Rattle.refusals.specs.Numbers.{number_of}
use Rattle.refusals.specs.declared.Refusal.{Refusal}
use Rattle.text.specs.Ascii.{ascii}
use Rattle.numerals.specs.Digits.{decimal}
use Rattle.verdicts.specs.declared.Verdict.{Verdict}

-- the line of a figure
abbrev pub verdict_line : Verdict → List ℕ
verdict_line Verdict.Agrees = ascii "figure agrees\n"
verdict_line Verdict.Differs = ascii "figure differs\n"
verdict_line Verdict.Unmatched = ascii "figure unmatched\n"

-- the last line
abbrev pub total_line : ℕ → ℕ → List ℕ
total_line words refused = (ascii "words " ++ decimal words) ++ (ascii " refused " ++ decimal refused) ++ ascii "\n"

-- the one line of a refused sheet
abbrev pub refusal_line : Refusal → ℕ → List ℕ
refusal_line refusal place = (ascii "sheet refused " ++ decimal (number_of refusal)) ++ (ascii " at " ++ decimal place) ++ ascii "\n"
