-- Each turn writes a field's line; what is written and what is ahead stay the sheet's (specs/LoopLemmas.antt).
use Rattle.walk.specs.Stands.{left}
use Rattle.field_lines.specs.LoopLemmas.{Going}
use Rattle.field_lines.proofs.put_lines.Given as goal

abbrev pub invariant-loop-given : goal.invariant-loop-given
invariant-loop-given l = Going l.sheet l.initial.out l.out l.walk l.at

abbrev pub decreases-loop-given : goal.decreases-loop-given
decreases-loop-given l = left l.sheet l.walk
