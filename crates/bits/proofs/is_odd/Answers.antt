-- The machine's count of ones is the count in 32 steps.
use mathlib.Core.Path.{ap}
use Prim.Native.Nat.{ℕ, ◌%◌}
use lib.Dec.{eqb}
use Rattle.bits.specs.Parity.{ones_in_lem}
use Rattle.bits.proofs.is_odd.Goals as goal

pub returns : goal.returns
returns c =
    ap (λ (x : ℕ). eqb (x % 2) 1) (ones_in_lem 32 c.args.word c.ranges.word.fits)
