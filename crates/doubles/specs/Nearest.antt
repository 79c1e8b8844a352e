-- What it means that a double is the one nearest to a fraction, in whole numbers: both sides multiplied by the divisors.
-- Assumes nothing.
use Rattle.std.specs.Prelude.{◌⊎◌, ℕ, ◌+◌, ◌-◌, ◌*◌, ◌<◌, Bool, cond, ℤ, nat_abs, T, Float}
use Rattle.std.specs.Bool.{beq}
use Rattle.std.specs.Float.{nan, inf, fin, binary64}
use Rattle.std.specs.Float.Ieee.{up, down, eq, fits}
use Rattle.std.specs.Float.Ieee.Scale.{finite}
use Rattle.std.specs.Float.Ieee.Positive.{den}
use Rattle.doubles.specs.Exact.{negative}

-- |±p - ±a|, with the signs s and t: of two numbers of one sign the difference, of which one of the two parts is 0; else the sum
abbrev pub apart : Bool → ℕ → Bool → ℕ → ℕ
apart s p t a = cond (beq s t) (p - a + (a - p)) (p + a)

-- |x - numerator / denominator|, multiplied by the denominator and by x's own divisor `den x`, so that it is a whole number
abbrev pub distance : Float → ℤ → ℕ → ℕ
distance nan numerator denominator = 0
distance (inf s) numerator denominator = 0
distance (fin s m e) numerator denominator = apart s (m * up e * denominator) (negative numerator) (nat_abs numerator * down e)

-- x is a finite double, and every other finite double lies farther from numerator / denominator (`eq` is the language's `==`)
pub record IsNearest (x : Float) (numerator : ℤ) (denominator : ℕ) : Type 0 where
  pub is_finite : T (finite x)
  pub is_double : T (fits binary64 x)
  pub others_farther : (y : Float) → T (finite y) → T (fits binary64 y) → T (eq x y) ⊎ (distance x numerator denominator * den y < distance y numerator denominator * den x)
