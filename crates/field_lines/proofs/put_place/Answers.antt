-- Three texts in a row.
use Rattle.text.proofs.Writing.{joined}
use Rattle.field_lines.proofs.put_place.Goals as goal

pub returns : goal.returns
returns c =
    joined (joined c.put_decimal-first.ensures c.put_named-second.ensures) c.put_byte.ensures
