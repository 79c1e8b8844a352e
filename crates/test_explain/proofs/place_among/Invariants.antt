-- Less is left behind each word, so there are no more words before than bytes.
use Rattle.std.proofs.Common.{◌-◌, ◌≤◌, length}
use Rattle.test_explain.proofs.place_among.Given as goal

abbrev pub invariant-loop-start : goal.invariant-loop-start
invariant-loop-start l = l.before ≤ l.start

abbrev pub decreases-loop-start : goal.decreases-loop-start
decreases-loop-start l = length l.words - l.start
