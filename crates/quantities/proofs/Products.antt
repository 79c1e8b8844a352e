-- A sound scale's numbers are small enough that the products of the code fit 64 bits.
use mathlib.Core.Bool.{Bool, true, false}
use Prim.Native.Nat.{ℕ, ◌+◌, ◌*◌, ◌≤◌, ◌<◌, ◌^◌}
use native.Mathlib.Nat.{le_trans, mul-le-mul, div-le_self}
use native.Mathlib.Omega.{arith}
use Rattle.quantities.specs.declared.Scale.{Scale}
use Rattle.quantities.specs.Scale.{Sound, last_count, widest}
use Rattle.quantities.specs.Nearest.{reach}

-- the step is above 0
pub step_positive : (s : Scale) → Sound s → 0 < s.numerator
step_positive s k = omega (arith, k.longer)

pub last_within : (s : Scale) → Sound s → (negative : Bool) → last_count s negative ≤ widest negative
last_within s k false = k.above_small
last_within s k true = k.below_small

pub last_small : (s : Scale) → Sound s → (negative : Bool) → last_count s negative ≤ 32768
last_small s k false = omega (arith, k.above_small)
last_small s k true = k.below_small

pub reach_product : (s : Scale) → Sound s → (negative : Bool) → (2 * last_count s negative + 1) * s.numerator ≤ 65537 * 2 ^ 27
reach_product s k negative =
    mul-le-mul {n₁ = 2 * last_count s negative + 1} {n₂ = 65537} (omega (arith, last_small s k negative)) k.numerator_small

pub reach_small : (s : Scale) → Sound s → (negative : Bool) → reach s negative ≤ 65537 * 2 ^ 27
reach_small s k negative = le_trans (div-le_self _ (2 * s.denominator)) (reach_product s k negative)

-- a size within reach, times the denominator
pub size_product : (s : Scale) → Sound s → (size : ℕ) → size ≤ 65537 * 2 ^ 27 → size * s.denominator ≤ 65537 * 2 ^ 27 * 2 ^ 14
size_product s k size h = mul-le-mul h k.denominator_small

-- the size of a count, times the numerator
pub count_product : (s : Scale) → Sound s → (size : ℕ) → size ≤ 32768 → size * s.numerator ≤ 32768 * 2 ^ 27
count_product s k size h = mul-le-mul h k.numerator_small
