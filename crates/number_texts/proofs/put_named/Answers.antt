-- Two texts in a row.
use Rattle.text.proofs.Writing.{joined}
use Rattle.number_texts.proofs.put_named.Goals as goal

pub returns : goal.returns
returns c =
    joined c.put_text-digits.ensures c.put_decimal.ensures
