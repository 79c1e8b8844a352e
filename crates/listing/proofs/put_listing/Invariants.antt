-- Each turn writes a field's line and counts it; what is written and what is ahead stay the sheet's (specs/LoopLemmas.antt).
use Rattle.walk.specs.Stands.{left}
use Rattle.listing.specs.LoopLemmas.{Going}
use Rattle.listing.proofs.put_listing.Given as goal

abbrev pub invariant-loop-given : goal.invariant-loop-given
invariant-loop-given l = Going l.sheet l.initial.out l.out l.walk l.progress

abbrev pub decreases-loop-given : goal.decreases-loop-given
decreases-loop-given l = left l.sheet l.walk
