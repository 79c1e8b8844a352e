-- The lines of document 01's starred words, as the definitions compute them.
-- Assumes nothing.
use Rattle.std.specs.Prelude.{◌≡◌, refl, [], ◌∷◌, map}
use Rattle.std.specs.Int.Count.{ones_in}
use Rattle.rounding.specs.Rounding.{round_even}
use Rattle.labels.specs.Table.{row_of}
use Rattle.quantities.specs.Nearest.{millionths_of}
use Rattle.text.specs.Ascii.{ascii}
use Rattle.numerals.specs.Digits.{decimal}
use Rattle.word_lines.specs.WordLines.{word_line}
use Rattle.word_lines.specs.Examples.{words}

word-lines : map word_line words ≡
    ascii "222 0 ready 90.000000\n"
    ∷ ascii "222 0 ready -45.000000\n"
    ∷ ascii "173 0 ready 0.100000\n"
    ∷ ascii "173 0 ready -0.000098\n"
    ∷ ascii "034 0 ready 113.20\n"
    ∷ ascii "036 0 ready 5090.70\n"
    ∷ ascii "153 0 ready 359\n"
    ∷ ascii "refused 6\n"
    ∷ ascii "154 0 ready 4.0\n"
    ∷ ascii "refused 7\n"
    ∷ ascii "refused 1\n"
    ∷ []
unfolding words decimal millionths_of round_even ones_in row_of
word-lines = refl
