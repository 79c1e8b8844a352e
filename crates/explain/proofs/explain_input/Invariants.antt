-- What is kept of a begun line is short at each turn; the turns are counted down.
use Rattle.std.proofs.Common.{◌≤◌}
use Rattle.explain.proofs.explain_input.Given as goal

abbrev pub invariant-loop-turns : goal.invariant-loop-turns
invariant-loop-turns g l = l.state.begun ≤ 202

abbrev pub decreases-loop-turns : goal.decreases-loop-turns
decreases-loop-turns g l = l.turns
