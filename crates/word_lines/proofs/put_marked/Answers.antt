-- Three texts in a row.
use Rattle.text.proofs.Writing.{joined}
use Rattle.word_lines.proofs.put_marked.Goals as goal

pub returns : goal.returns
returns c =
    joined (joined c.put_heading-first.ensures c.put_mark-second.ensures) c.put_byte.ensures
