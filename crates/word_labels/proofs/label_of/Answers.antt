-- Before turn k the sum is that of bits 1 to k - 1.
use mathlib.Core.Path.{◌≡◌, ap₂}
use Prim.Native.Nat.{ℕ, ◌-◌, ◌*◌, ◌^◌, ◌≤◌}
use native.Mathlib.Omega.{arith}
use Rattle.labels.specs.Label.{bit}
use Rattle.word_labels.proofs.Turns.{weighed-le, sum-le}
use Rattle.word_labels.proofs.label_of.Goals as goal

pub overflow_add-label : goal.overflow_add-label
overflow_add-label c =
    let added : c.bit.result * c.weight.result ≡ bit c.loop-k.k c.args.word * 2 ^ (8 - c.loop-k.k)
    = ap₂ (λ (b w : ℕ). b * w) c.bit.ensures c.weight.ensures in
    let small : bit c.loop-k.k c.args.word * 2 ^ (8 - c.loop-k.k) ≤ 128
    = weighed-le c.args.word c.loop-k.k (omega arith) in
    omega (arith, added, small, sum-le c.args.word (c.loop-k.k - 1), c.loop-k.invariant.1)
