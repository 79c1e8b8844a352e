-- The number that a text of digits is, in a base and up to a greatest one.
-- Assumes nothing.
use Rattle.std.specs.Prelude.{Bool, true, ◌&&◌, cond, List, [], ◌∷◌, ℕ, ◌+◌, ◌-◌, ◌*◌, ltb, leb, Option, Some, None}

-- the digit that a byte is: `0` to `9`, then `A` to `F` or `a` to `f`; 255, which is a digit of no base of a byte, for every other
unfoldable pub digit_of : ℕ → ℕ
digit_of c =
    cond (ltb c 48) 255
    (cond (leb c 57) (c - 48)
    (cond (ltb c 65) 255
    (cond (leb c 70) (c - 55)
    (cond (ltb c 97) 255
    (cond (leb c 102) (c - 87) 255)))))

-- a number with more digits behind it, the highest first
abbrev pub value_from : ℕ → ℕ → List ℕ → ℕ
value_from base n [] = n
value_from base n (c ∷ t) = value_from base (n * base + digit_of c) t

-- the number of a text of digits
abbrev pub value_of : ℕ → List ℕ → ℕ
value_of base t = value_from base 0 t

-- every byte is a digit of the base
abbrev pub are_digits : ℕ → List ℕ → Bool
are_digits base [] = true
are_digits base (c ∷ t) = ltb (digit_of c) base && are_digits base t

-- a number with one digit behind it is one of the base, and no greater than the greatest
abbrev pub goes_behind : ℕ → ℕ → ℕ → ℕ → Bool
goes_behind base most n digit = ltb digit base && leb (n * base + digit) most

-- a number where a text passes its tests, else none
abbrev pub numeral : Bool → ℕ → Option ℕ
numeral good n = cond good (Some n) None

-- a number exactly where there is a digit, every byte is one of the base, and the number is no greater than the greatest
abbrev pub numeral_of : ℕ → ℕ → List ℕ → Option ℕ
numeral_of base most [] = None
numeral_of base most (c ∷ t) = numeral (are_digits base (c ∷ t) && leb (value_of base (c ∷ t)) most) (value_of base (c ∷ t))
