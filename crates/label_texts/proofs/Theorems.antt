-- What a line of a label says: read as a binary number, bits 1 to 8 in their order are the label, so that bit 1 is its highest digit; the octal digits
-- mean the label too. A kind's line has the kind's own label.
-- Assumes nothing.
use Rattle.std.specs.Prelude.{◌≡◌, refl, Bool, true, false, cond, ◌++◌, ℕ, ◌*◌, ◌≤◌, ◌<◌, length}
use Rattle.std.proofs.Common.{ap, ◌∙◌, arith}
use Rattle.records.specs.declared.Kind.{Kind}
use Rattle.labels.specs.Label.{label_of}
use Rattle.labels.specs.BytesLemmas.{over_bytes}
use Rattle.labels.proofs.LabelLaws.{label_twice}
use Rattle.labels.specs.Table.{label_number, byte_of}
use Rattle.labels.proofs.Assignment.{short}
use Rattle.text.specs.Ascii.{ascii}
use Rattle.hex_texts.specs.HexTexts.{hex_byte}
use Rattle.numerals.specs.Digits.{octal3}
use Rattle.numerals.specs.Theorems.{value}
use Rattle.label_texts.specs.LabelTexts.{bits_text, label_line, shown_bytes, labels_text}
use Rattle.label_texts.specs.Theorems.{lines-length}

-- Bits 1 to 8 in their order, read as a binary number, are the label: computed over all 256 bytes.
pub bits_read : (b : ℕ) → b < 256 → value 2 (bits_text b) ≡ label_of b
bits_read = over_bytes (λ (b : ℕ). value 2 (bits_text b)) label_of tt

-- The line of a kind has the kind's label.
pub kind_line : (k : Kind) → label_line (byte_of k) ≡ octal3 (label_number k) ++ ascii " " ++ bits_text (byte_of k) ++ ascii " " ++ hex_byte (byte_of k) ++ ascii "\n"
unfolding label_line
kind_line k =
    ap (λ (l : ℕ). octal3 l ++ ascii " " ++ bits_text (byte_of k) ++ ascii " " ++ hex_byte (byte_of k) ++ ascii "\n") (label_twice (label_number k) (short k))

-- The text has fifteen lines, or 256, of 16 bytes each.
pub shown-length : (all : Bool) → length (shown_bytes all) ≡ cond all 256 15
unfolding shown_bytes
shown-length true = refl
shown-length false = refl

pub text_length : (all : Bool) → length (labels_text all) ≡ 16 * cond all 256 15
text_length all = lines-length (shown_bytes all) ∙ ap (λ (n : ℕ). 16 * n) (shown-length all)

pub text_short : (all : Bool) → length (labels_text all) ≤ 4096
text_short true = omega (arith, text_length true)
text_short false = omega (arith, text_length false)
