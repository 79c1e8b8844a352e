-- Three texts in a row, with the tag as it went through the call.
use mathlib.Core.Path.{ap}
use mathlib.Core.List.{◌++◌}
use Prim.Native.Nat.{ℕ}
use Rattle.text.specs.Ascii.{ascii}
use Rattle.text.specs.Writing.{named}
use Rattle.text.proofs.Writing.{joined}
use Rattle.numerals.specs.Digits.{decimal}
use Rattle.hex_texts.specs.HexTexts.{hex_byte}
use Rattle.field_lines.specs.FieldLines.{place_text}
use Rattle.field_lines.proofs.put_head.Goals as goal

pub returns : goal.returns
returns c =
    let field = c.args.field in
    named (joined (joined c.put_place-first.ensures c.put_hex_byte-second.ensures) c.put_named.ensures)
    (ap (λ (t : ℕ). place_text field.place field.depth ++ hex_byte t ++ (ascii " " ++ decimal field.length)) c.tag_of-tag.ensures)
