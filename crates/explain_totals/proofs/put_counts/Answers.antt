-- Three texts in a row.
use Rattle.text.proofs.Writing.{joined}
use Rattle.explain_totals.proofs.put_counts.Goals as goal

pub returns : goal.returns
returns c =
    joined (joined c.put_named-agree.ensures c.put_named-disagree.ensures) c.put_named.ensures
