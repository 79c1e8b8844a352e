-- Three texts in a row.
use Rattle.text.proofs.Writing.{joined}
use Rattle.word_lines.proofs.put_record_line.Goals as goal

pub returns : goal.returns
returns c =
    joined (joined c.put_marked-first.ensures c.put_figure-second.ensures) c.put_byte.ensures
