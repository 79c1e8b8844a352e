-- The steps that are left lead from here where all the steps lead from the start.
use Rattle.std.proofs.Common.{◌≡◌, ◌≤◌, ◌-◌}
use Rattle.walk.specs.Walked.{after as afterSteps}
use Rattle.sheet_reader.proofs.walk_past.Given as goal

abbrev pub invariant-loop : goal.invariant-loop
invariant-loop l = (l.counter ≤ l.count) × (afterSteps (l.count - l.counter) l.sheet l.at ≡ afterSteps l.count l.sheet l.fn.walk)
