-- Less is left behind each line.
use Rattle.std.proofs.Common.{◌-◌, length}
use Rattle.test_figures.proofs.tally_of.Given as goal

abbrev pub decreases-loop-start : goal.decreases-loop-start
decreases-loop-start l = length l.text - l.start
