-- The signed whole number in a line of test vectors: digits, with a minus (45) before them or none.
-- Assumes nothing.
use Rattle.std.specs.Prelude.{Bool, List, ℕ, ◌-◌, ◌^◌, Option, Some, None, ℤ}
use Rattle.signed_numbers.specs.Signed.{signed_of}
use Rattle.typed_texts.specs.Texts.{starts_with, unsigned}
use Rattle.typed_texts.specs.Numbers.{numeral_of}

-- a number of 64 bits, or too large: so too where the text is no number
abbrev pub signed_from : Bool → Option ℕ → Option ℤ
signed_from negative (Some n) = signed_of negative n
signed_from negative None = None

abbrev pub signed_in : List ℕ → Option ℤ
signed_in t = signed_from (starts_with 45 t) (numeral_of 10 (2 ^ 64 - 1) (unsigned t))
