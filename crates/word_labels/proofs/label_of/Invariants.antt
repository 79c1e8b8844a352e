-- Before turn k the sum is that of bits 1 to k - 1.
use mathlib.Core.Path.{◌≡◌}
use Prim.Native.Nat.{◌-◌, ◌≤◌}
use Rattle.labels.specs.Label.{label_to}
use Rattle.word_labels.proofs.label_of.Given as goal

abbrev pub invariant-loop-k : goal.invariant-loop-k
invariant-loop-k l = ((1 ≤ l.k) × (l.k ≤ 9)) × (l.label ≡ label_to (l.k - 1) l.word)

abbrev pub decreases-loop-k : goal.decreases-loop-k
decreases-loop-k l = 9 - l.k
