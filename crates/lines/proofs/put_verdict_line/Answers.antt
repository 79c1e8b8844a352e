-- By the three verdicts.
use mathlib.Core.Path.{sym, ap}
use Rattle.text.specs.Writing.{named}
use Rattle.lines.specs.Lines.{verdict_line}
use Rattle.lines.proofs.put_verdict_line.Goals as goal

pub returns-in-Unmatched : goal.returns-in-Unmatched
returns-in-Unmatched c =
    named c.put_text-in-Unmatched.ensures (ap verdict_line (sym c.in-Unmatched.is))
