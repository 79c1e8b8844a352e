-- Four texts in a row.
use Rattle.text.proofs.Writing.{joined}
use Rattle.explain_totals.proofs.put_totals.Goals as goal

pub returns : goal.returns
returns c =
    joined (joined (joined c.put_counts-refused.ensures c.put_named-unread.ensures) c.put_named-end.ensures) c.put_byte.ensures
