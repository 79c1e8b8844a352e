-- The figures that a person may type, as a grammar, apart from how they are read; and those that are printed.
-- Assumes nothing.
use Rattle.std.specs.Prelude.{◌≡◌, Bool, true, false, List, [], ◌∷◌, ◌++◌, ◌⊎◌, ℕ, ◌+◌, ◌-◌, ◌*◌, ◌^◌, ◌≤◌, ◌<◌, ℤ, length}
use Rattle.rounding.specs.Parts.{with_sign}
use Rattle.signed_numbers.specs.Signed.{Fits}
use Rattle.numerals.specs.Digits.{sign}
use Rattle.numerals.specs.Theorems.{Digits, value, first}

-- a sign, and whether it is a minus: nothing, a plus (43) or a minus (45)
pub data Sign : List ℕ → Bool → Type 0 where
  none : Sign [] false
  plus : Sign (43 ∷ []) false
  minus : Sign (45 ∷ []) true

-- what stands before these decimals: a point (46) or a comma (44), or nothing where there are none
pub data Separator : List ℕ → List ℕ → Type 0 where
  point : {decimals : List ℕ} → Separator (46 ∷ []) decimals
  comma : {decimals : List ℕ} → Separator (44 ∷ []) decimals
  absent : Separator [] []

-- a text of a sign, digits, a separator and decimals in a row, at least one digit and six decimals at most,
-- and the number of millionths that it means, which 64 bits hold
pub record Typed (t : List ℕ) (z : ℤ) : Type 0 where
  pub negative : Bool
  pub signed : List ℕ
  pub whole : List ℕ
  pub separated : List ℕ
  pub decimals : List ℕ
  pub row : t ≡ signed ++ (whole ++ (separated ++ decimals))
  pub sign : Sign signed negative
  pub separator : Separator separated decimals
  pub whole-digits : Digits 10 whole
  pub decimal-digits : Digits 10 decimals
  pub some : 0 < length whole + length decimals
  pub six : length decimals ≤ 6
  pub number : z ≡ with_sign negative (value 10 whole * 10 ^ 6 + value 10 decimals * 10 ^ (6 - length decimals))
  pub fits : Fits z

-- a text as figures are printed: a minus or nothing, digits with no leading zero, a point and six decimals, and no minus before zero
pub record Printed (t : List ℕ) : Type 0 where
  pub negative : Bool
  pub whole : List ℕ
  pub decimals : List ℕ
  pub row : t ≡ sign negative ++ (whole ++ (46 ∷ decimals))
  pub whole-digits : Digits 10 whole
  pub decimal-digits : Digits 10 decimals
  pub no_leading-zero : (whole ≡ 48 ∷ []) ⊎ (48 < first whole)
  pub six : length decimals ≡ 6
  pub no_minus_zero : negative ≡ true → 0 < value 10 whole + value 10 decimals
