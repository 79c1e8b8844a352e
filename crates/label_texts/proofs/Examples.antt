-- Worked lines: the first label of the table, one whose byte starts with a zero, and the labels of a single bit at either end.
-- Assumes nothing.
use Rattle.std.specs.Prelude.{◌≡◌, refl}
use Rattle.text.specs.Ascii.{ascii}
use Rattle.label_texts.specs.LabelTexts.{label_line}

azimuth : label_line 0x49 ≡ ascii "222 10010010 49\n"
unfolding label_line
azimuth = refl

part_1 : label_line 0x06 ≡ ascii "140 01100000 06\n"
unfolding label_line
part_1 = refl

-- bit 1 alone, and bit 8 alone
bit_1 : label_line 0x01 ≡ ascii "200 10000000 01\n"
unfolding label_line
bit_1 = refl

bit_8 : label_line 0x80 ≡ ascii "001 00000001 80\n"
unfolding label_line
bit_8 = refl
