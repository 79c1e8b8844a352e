-- Four texts in a row.
use mathlib.Core.Path.{ap}
use mathlib.Core.List.{◌++◌}
use Prim.Native.Nat.{ℕ}
use Rattle.text.specs.Ascii.{ascii}
use Rattle.text.specs.Writing.{named}
use Rattle.text.proofs.Writing.{joined}
use Rattle.hex_texts.specs.HexTexts.{hex_byte}
use Rattle.numerals.specs.Digits.{octal3}
use Rattle.label_texts.specs.LabelTexts.{bits_text, label_line}
use Rattle.label_lines.proofs.put_line.Goals as goal

pub returns : goal.returns
unfolding label_line
returns c =
    let byte = c.args.byte in
    named (joined (joined (joined c.put_octal3-bits.ensures c.put_bits-hex.ensures) c.put_hex_byte-end.ensures) c.put_byte.ensures)
    (ap (λ (l : ℕ). octal3 l ++ (ascii " " ++ bits_text byte ++ ascii " ") ++ hex_byte byte ++ ascii "\n") c.label_of-label.ensures)
