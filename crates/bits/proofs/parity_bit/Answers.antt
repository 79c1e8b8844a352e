-- The machine's count of ones is the count in 32 steps.
use mathlib.Core.Path.{ap}
use Prim.Native.Nat.{ℕ, ◌-◌, ◌%◌}
use Rattle.bits.specs.Parity.{ones_in_lem}
use Rattle.bits.proofs.parity_bit.Goals as goal

pub returns-clause-value : goal.returns-clause-value
returns-clause-value c =
    ap (λ (x : ℕ). 1 - x % 2) (ones_in_lem 32 c.args.value c.ranges.value.fits)
