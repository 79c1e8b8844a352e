-- Two texts in a row.
use Rattle.text.proofs.Writing.{joined}
use Rattle.explain_lines.proofs.put_unread.Goals as goal

pub returns : goal.returns
returns c =
    joined c.put_named-behind.ensures c.put_text.ensures
