-- What is read of a typed figure, by its parts: the sign, what stands before the point or the comma, and what stands behind it.
-- Assumes nothing.
use Rattle.std.specs.Prelude.{Bool, ◌&&◌, ◌||◌, cond, List, [], ◌∷◌, ℕ, ◌+◌, ◌-◌, ◌*◌, ◌^◌, eqb, ltb, leb, length, Option, None, ℤ}
use Rattle.signed_numbers.specs.Signed.{signed_of}
use Rattle.typed_texts.specs.Texts.{text_before, text_behind, starts_with}
use Rattle.typed_texts.specs.TextLaws.{has}
use Rattle.typed_texts.specs.Numbers.{value_of, are_digits}

-- a figure's text without its plus (43) or minus (45)
abbrev pub behind_sign : List ℕ → List ℕ
behind_sign [] = []
behind_sign (c ∷ t) = cond (eqb c 45 || eqb c 43) t (c ∷ t)

-- the byte that parts the whole digits and the decimals: a point (46) where there is one, else a comma (44)
abbrev pub separator_of : List ℕ → ℕ
separator_of t = cond (has 46 t) 46 44

-- digits only, at least one in all, and six decimals at most
abbrev pub are_parts : List ℕ → List ℕ → Bool
are_parts whole decimals =
    (leb (length decimals) 6 && ltb 0 (length whole + length decimals)) && (are_digits 10 whole && are_digits 10 decimals)

-- the millionths of the parts
abbrev pub millionths_of : List ℕ → List ℕ → ℕ
millionths_of whole decimals = value_of 10 whole * 10 ^ 6 + value_of 10 decimals * 10 ^ (6 - length decimals)

-- what is read of the sign and the parts: a number that 64 bits hold
unfoldable pub parts_read : Bool → List ℕ → List ℕ → Option ℤ
parts_read negative whole decimals =
    cond (are_parts whole decimals) (signed_of negative (millionths_of whole decimals)) None

-- what is read of a text without its sign
abbrev pub body_read : Bool → List ℕ → Option ℤ
body_read negative t = parts_read negative (text_before (separator_of t) t) (text_behind (separator_of t) t)

-- what is read of a text
unfoldable pub figure_of : List ℕ → Option ℤ
figure_of t = body_read (starts_with 45 t) (behind_sign t)
