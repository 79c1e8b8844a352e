-- Numbers written out: what the definitions of `Digits` compute to.
-- Assumes nothing.
use Rattle.std.specs.Prelude.{◌≡◌, refl, pos, negsuc}
use Rattle.text.specs.Ascii.{ascii}
use Rattle.numerals.specs.Digits.{octal3, decimal, fixed, signed_fixed}

zero : decimal 0 ≡ ascii "0"
unfolding decimal
zero = refl

whole : decimal 5090 ≡ ascii "5090"
unfolding decimal
whole = refl

label : octal3 28 ≡ ascii "034"
label = refl

frequency : fixed 2 11320 ≡ ascii "113.20"
unfolding decimal
frequency = refl

degrees : fixed 0 359 ≡ ascii "359"
unfolding decimal
degrees = refl

-- the sign of a number between -1 and 0 is kept, and its decimals are padded
below-zero : signed_fixed 6 (negsuc 97) ≡ ascii "-0.000098"
unfolding decimal
below-zero = refl

azimuth : signed_fixed 6 (pos 90000000) ≡ ascii "90.000000"
unfolding decimal
azimuth = refl
