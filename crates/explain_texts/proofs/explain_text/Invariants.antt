-- Each turn answers a line and goes over to what stands behind it (proofs/Going.antt).
use lib.ListN.{length}
use Rattle.explain_texts.proofs.Going.{Going}
use Rattle.explain_texts.proofs.explain_text.Given as goal

abbrev pub invariant-loop-ahead : goal.invariant-loop-ahead
invariant-loop-ahead l = Going l.text l.initial.answered.after l.initial.out l.out l.answered l.ahead

abbrev pub decreases-loop-ahead : goal.decreases-loop-ahead
decreases-loop-ahead l = length l.ahead
