-- The listing that document 01 prints, as the definitions compute its lines.
-- Assumes nothing.
use Rattle.std.specs.Prelude.{◌≡◌, refl, ◌++◌, pos, Some}
use Rattle.std.specs.Int.Count.{ones_in}
use Rattle.rounding.specs.Rounding.{round_even}
use Rattle.labels.specs.Table.{row_of}
use Rattle.quantities.specs.Nearest.{line_nearest, nearest_count, millionths_of}
use Rattle.text.specs.Ascii.{ascii}
use Rattle.numerals.specs.Digits.{decimal}
use Rattle.verdicts.specs.Verdicts.{verdict_of}
use Rattle.word_lines.specs.WordLines.{word_line}
use Rattle.lines.specs.Lines.{verdict_line, total_line}

listing : word_line 0xE8000049 ++ word_line 0x640000DE ++ verdict_line (verdict_of (Some 0x640000DE) 0x7B (pos 1000000)) ++ word_line 0xE8000048 ++ total_line 3 1
    ≡ ascii "222 0 ready 90.000000\n173 0 ready 0.100000\nfigure differs\nrefused 1\nwords 3 refused 1\n"
unfolding decimal millionths_of round_even ones_in row_of nearest_count line_nearest
listing = refl
