-- Four texts in a row.
use Rattle.text.proofs.Writing.{joined}
use Rattle.word_lines.proofs.put_heading.Goals as goal

pub returns : goal.returns
returns c =
    joined
    (joined (joined c.put_octal3-first.ensures c.put_byte-second.ensures) c.put_decimal-third.ensures)
    c.put_byte.ensures
