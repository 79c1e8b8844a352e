-- The doubles of readings (document 01, "Readings, figures and joined groups"): which IEEE 754 operations give each, and what value it has.
-- Assumes nothing.
use Rattle.std.specs.Prelude.{◌≡◌, refl, ℕ, ◌*◌, ◌%◌, ◌^◌, ◌≤◌, ◌<◌, ℤ, pos, negsuc, nat_abs, ◌*ℤ◌, Float}
use Rattle.std.proofs.Common.{sym, subst, lt_of_le_of_lt, mul-pos, arith, lit≤, lit<, pow_pos}
use Rattle.std.specs.Int.Signed.{nat_abs-le}
use Rattle.std.specs.Float.{binary64}
use Rattle.std.specs.Float.Ieee.{round, mul, div, of_int}
use Rattle.doubles.specs.Exact.{IsExactly, IsCount, negative, double}
use Rattle.doubles.proofs.Exact.{count_exact, scaled_exact, scaled_injective, quotient_rounded}
use Rattle.doubles.specs.Nearest.{IsNearest}
use Rattle.doubles.specs.Rounded.{odd_pos}
use Rattle.doubles.proofs.Rounded.{round_nearest}
use Rattle.doubles.specs.Doubles.{degrees_of, millivolts_of, quotient_of, course_of, glide_of}

pub degrees_exact : (count : ℤ) → IsCount count → IsExactly (degrees_of count) (count *ℤ pos 45) 1024
degrees_exact = scaled_exact 45 (lit< tt) (lit< tt)

-- Different counts have different azimuths.
pub degrees_injective : (a b : ℤ) → IsCount a → IsCount b → degrees_of a ≡ degrees_of b → a ≡ b
degrees_injective = scaled_injective 45 (lit< tt) (lit< tt)

pub millivolts_exact : (count : ℤ) → IsCount count → IsExactly (millivolts_of count) (count *ℤ pos 75) 1024
millivolts_exact = scaled_exact 75 (lit< tt) (lit< tt)

-- Different counts have different deviations.
pub millivolts_injective : (a b : ℤ) → IsCount a → IsCount b → millivolts_of a ≡ millivolts_of b → a ≡ b
millivolts_injective = scaled_injective 75 (lit< tt) (lit< tt)

-- The division's result is count / divisor itself rounded, since the count as a double is the count.
pub quotient_once : (divisor : ℕ) → 0 < divisor → divisor ≤ 2 ^ 53 → (count : ℤ) → IsCount count → quotient_of divisor count ≡ round binary64 (negative count) (nat_abs count) divisor
quotient_once divisor above small count h = quotient_rounded (double count) count divisor above small (count_exact count h)

-- So it is the double nearest to count / divisor, for a divisor o × 2 ^ c with an odd o: no count then lies half-way between two doubles.
pub quotient_nearest : (o c : ℕ) → o % 2 ≡ 1 → c ≤ 37 → o * 2 ^ c ≤ 2 ^ 53 → (count : ℤ) → IsCount count → IsNearest (quotient_of (o * 2 ^ c) count) count (o * 2 ^ c)
quotient_nearest o c odd few small count h =
    subst (λ (x : Float). IsNearest x count (o * 2 ^ c)) (sym (quotient_once (o * 2 ^ c) (mul-pos (odd_pos o odd) (pow_pos c)) small count h))
    (round_nearest count 16 o c (lt_of_le_of_lt (nat_abs-le count h) (lit< tt)) odd (omega arith))

-- 10240 is 5 × 2 ^ 11, and 5120 is 5 × 2 ^ 10.
pub course_nearest : (count : ℤ) → IsCount count → IsNearest (course_of count) count 10240
course_nearest = quotient_nearest 5 11 refl (lit≤ tt) (lit≤ tt)

pub glide_nearest : (count : ℤ) → IsCount count → IsNearest (glide_of count) count 5120
glide_nearest = quotient_nearest 5 10 refl (lit≤ tt) (lit≤ tt)

-- MLS count 16384, which bit 28 alone makes, is 1200 mV, and the least count is -2400 mV.
millivolts_of_16384 : millivolts_of (pos 16384) ≡ double (pos 1200)
unfolding div mul of_int
millivolts_of_16384 = refl

millivolts_of_minus_32768 : millivolts_of (negsuc 32767) ≡ double (negsuc 2399)
unfolding div mul of_int
millivolts_of_minus_32768 = refl
