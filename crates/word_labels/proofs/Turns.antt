-- What a turn of the loop adds: bit k, weighed, which makes the sum of bits 1 to k - 1 that of bits 1 to k; and that no sum is large.
-- Assumes nothing.
use mathlib.Core.Path.{◌≡◌, ap}
use Prim.Native.Nat.{ℕ, zero, suc, ◌+◌, ◌-◌, ◌*◌, ◌^◌, ◌≤◌}
use native.Mathlib.Nat.{mul-le-mul}
use native.Mathlib.Omega.{arith}
use lib.Pow.{pow_mono}
use Rattle.labels.specs.Label.{bit, label_to}

pub weighed-le : (w k : ℕ) → 1 ≤ k → bit k w * 2 ^ (8 - k) ≤ 128
weighed-le w k p = let b : bit k w ≤ 1 = omega arith in omega (arith, mul-le-mul b (pow_mono {i = 8 - k} {j = 7} (omega arith)))

pub sum-le : (w n : ℕ) → label_to n w ≤ 128 * n
sum-le w zero = omega arith
sum-le w (suc n) = omega (arith, sum-le w n, weighed-le w (suc n) (omega arith))

pub turn : (w k : ℕ) → 1 ≤ k → label_to (k - 1) w + bit k w * 2 ^ (8 - k) ≡ label_to k w
turn w zero p = absurd (omega arith)
turn w (suc n) p = let e : suc n - 1 ≡ n = omega arith in ap (λ (m : ℕ). label_to m w + bit (suc n) w * 2 ^ (8 - suc n)) e
