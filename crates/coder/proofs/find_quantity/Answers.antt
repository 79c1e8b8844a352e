-- A label above 255 is unknown, and any other is looked up.
use mathlib.Core.Path.{sym, ap}
use Rattle.labels.proofs.Assignment.{document01}
use Rattle.figures.specs.Coding.{quantity_found}
use Rattle.figures.specs.Words.{unknown}
use Rattle.coder.proofs.find_quantity.Goals as goal

pub returns-then-label-gt255 : goal.returns-then-label-gt255
returns-then-label-gt255 c =
    ap quantity_found (sym (unknown document01 c.args.label c.if-label-gt255.true))
