-- A number of millionths by its sign and its size.
-- Assumes nothing.
use Rattle.std.specs.Prelude.{◌≡◌, refl, ◌++◌, ℤ, pos, negsuc, nat_abs}
use Rattle.rounding.specs.Parts.{is_negative}
use Rattle.numerals.specs.Digits.{fixed, sign, signed_fixed}

-- the sign and the size of a number
pub sign-size : (z : ℤ) → sign (is_negative z) ++ fixed 6 (nat_abs z) ≡ signed_fixed 6 z
sign-size (pos n) = refl
sign-size (negsuc n) = refl
