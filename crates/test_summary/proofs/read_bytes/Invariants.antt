-- A pair of digits less is left after each turn.
use Rattle.std.proofs.Common.{◌-◌}
use Rattle.test_summary.proofs.read_bytes.Given as goal

abbrev pub decreases-loop-i : goal.decreases-loop-i
decreases-loop-i l = l.number - l.i
