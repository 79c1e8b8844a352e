-- What a line of a label says: read as a binary number, bits 1 to 8 in their order are the label, so that bit 1 is its highest digit; the octal digits
-- mean the label too. A kind's line has the kind's own label.
-- Assumes nothing.
use Rattle.std.specs.Prelude.{◌≡◌, refl, List, [], ◌∷◌, ℕ, ◌*◌, length}
use Rattle.std.proofs.Common.{◌∙◌, arith, length-append}
use Rattle.labels.specs.Label.{label_of}
use Rattle.labels.proofs.LabelLaws.{label_lt}
use Rattle.numerals.specs.Digits.{octal3}
use Rattle.numerals.specs.Theorems.{value, octal3-value}
use Rattle.label_texts.specs.LabelTexts.{label_line, label_lines}

-- The octal digits mean the label. (That the hex digits mean the byte is `hex_byte_read` of `hex_texts`.)
pub octal_read : (b : ℕ) → value 8 (octal3 (label_of b)) ≡ label_of b
octal_read b = octal3-value (label_of b) (omega (arith, label_lt b))

-- ---- lengths

pub line_length : (b : ℕ) → length (label_line b) ≡ 16
unfolding label_line
line_length b = refl

pub lines-length : (bs : List ℕ) → length (label_lines bs) ≡ 16 * length bs
lines-length [] = refl
lines-length (b ∷ bs) = length-append (label_line b) (label_lines bs) ∙ omega (arith, line_length b, lines-length bs)
