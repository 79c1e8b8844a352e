-- By whether words of the label measure a quantity; a label that does has 8 bits.
use Rattle.std.proofs.Common.{sym, ◌∙◌, arith}
use Rattle.labels.proofs.Assignment.{document01}
use Rattle.figures.specs.Words.{measured_short}
use Rattle.coder.proofs.code_figure.Goals as goal

pub overflow_cast-label : goal.overflow_cast-label
overflow_cast-label c = omega (arith, measured_short document01 c.args.label c.in-Some.quantity (sym c.find_quantity.ensures ∙ c.in-Some.is))
