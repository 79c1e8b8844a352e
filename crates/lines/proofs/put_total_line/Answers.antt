-- Three texts in a row.
use Rattle.text.proofs.Writing.{joined}
use Rattle.lines.proofs.put_total_line.Goals as goal

pub returns : goal.returns
returns c =
    joined (joined c.put_named-middle.ensures c.put_named-end.ensures) c.put_byte.ensures
