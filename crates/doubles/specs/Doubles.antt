-- The doubles of readings (document 01, "Readings, figures and joined groups"): which IEEE 754 operations give each, and what value it has.
-- Assumes nothing.
use Rattle.std.specs.Prelude.{◌≡◌, refl, ℕ, false, ℤ, pos, negsuc, Float}
use Rattle.std.specs.Float.{fin, binary64}
use Rattle.std.specs.Float.Ieee.{mul, div, of_int, of_bits}
use Rattle.doubles.specs.Exact.{double, scaled_of}

-- VOR azimuth in degrees: count × 45 / 1024
abbrev pub degrees_of : ℤ → Float
degrees_of = scaled_of 45 1024

-- MLS deviation in millivolts: count × 75 / 1024
abbrev pub millivolts_of : ℤ → Float
millivolts_of = scaled_of 75 1024

-- count / divisor: one division of the count as a double
abbrev pub quotient_of : ℕ → ℤ → Float
quotient_of divisor count = div binary64 (double count) (double (pos divisor))

-- ILS course in depth difference: count / 10240
abbrev pub course_of : ℤ → Float
course_of = quotient_of 10240

-- ILS glide in depth difference: count / 5120
abbrev pub glide_of : ℤ → Float
glide_of = quotient_of 5120

-- ---- the azimuth and the MLS deviations are exact

-- ---- course and glide are rounded once

-- ---- some of them, computed

-- Count 2048 is +90 degrees, -1024 is -45, and 0 is +0.
degrees_of_2048 : degrees_of (pos 2048) ≡ double (pos 90)
unfolding div mul of_int
degrees_of_2048 = refl

degrees_of_minus_1024 : degrees_of (negsuc 1023) ≡ double (negsuc 44)
unfolding div mul of_int
degrees_of_minus_1024 = refl

degrees_of_0 : degrees_of (pos 0) ≡ fin false 0 (pos 0)
unfolding div mul of_int
degrees_of_0 = refl

-- Course count 1024 is the double that a program writes 0.1, and glide count 2048 the one that it writes 0.4.
course_of_1024 : course_of (pos 1024) ≡ of_bits binary64 0x3fb9_9999_9999_999a
unfolding div of_int of_bits
course_of_1024 = refl

glide_of_2048 : glide_of (pos 2048) ≡ of_bits binary64 0x3fd9_9999_9999_999a
unfolding div of_int of_bits
glide_of_2048 = refl
