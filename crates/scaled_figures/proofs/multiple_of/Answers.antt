-- `scaled_figures::multiple_of`: what passes 2 ^ 63 is too large for either sign, and what does not fits the multiplication.
use mir.Facts.{to_z-of_z}
use Rattle.scaled_figures.proofs.Figures.{multiple_none}
use Rattle.scaled_figures.proofs.multiple_of.Goals as goal

pub returns-then-n-size : goal.returns-then-n-size
returns-then-n-size c =
    multiple_none (to_z-of_z c.ranges.millionths) c.args.n c.magnitude-size.ensures c.requires c.if-n-size.true
