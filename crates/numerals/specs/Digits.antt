-- Numbers as text: digits in ASCII, the highest first.
-- Assumes nothing.
use Rattle.std.specs.Prelude.{Bool, true, false, cond, List, [], ◌∷◌, ◌++◌, ℕ, zero, suc, ◌+◌, ◌/◌, ◌%◌, ◌^◌, ltb, ℤ, pos, negsuc}

-- the lowest digit of a number
abbrev pub digit : ℕ → ℕ → ℕ
digit base n = 48 + n % base

-- its lowest digits, as many as there are places, zeros included
abbrev pub padded : ℕ → ℕ → ℕ → List ℕ
padded base zero n = []
padded base (suc places) n = padded base places (n / base) ++ (digit base n ∷ [])

-- three octal digits, as labels are written
abbrev pub octal3 : ℕ → List ℕ
octal3 n = padded 8 3 n

-- its decimal digits, as long as there are any; the first number only bounds the steps
abbrev pub decimal_within : ℕ → ℕ → List ℕ
decimal_within zero n = digit 10 n ∷ []
decimal_within (suc bound) n = cond (ltb n 10) (digit 10 n ∷ []) (decimal_within bound (n / 10) ++ (digit 10 n ∷ []))

-- a decimal number with no leading zeros
unfoldable pub decimal : ℕ → List ℕ
decimal n = decimal_within n n

-- a number with a point before its last digits, as many as there are places
abbrev pub pointed : ℕ → ℕ → List ℕ
pointed places n = decimal (n / 10 ^ places) ++ (46 ∷ []) ++ padded 10 places n

-- a number of units of 1/10^places: the whole part, a point and the places; no point where there are no places
abbrev pub fixed : ℕ → ℕ → List ℕ
fixed zero n = decimal n
fixed (suc places) n = pointed (suc places) n

-- a minus, or nothing
abbrev pub sign : Bool → List ℕ
sign true = 45 ∷ []
sign false = []

-- the same for a signed number: a minus before one below 0
abbrev pub signed_fixed : ℕ → ℤ → List ℕ
signed_fixed places (pos n) = sign false ++ fixed places n
signed_fixed places (negsuc n) = sign true ++ fixed places (suc n)
