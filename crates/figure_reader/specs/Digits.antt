-- The number of a text of digits that may be empty.
-- Assumes nothing.
use Rattle.std.specs.Prelude.{List, [], ◌∷◌, ℕ, Option, Some}
use Rattle.typed_texts.specs.Numbers.{numeral_of}

-- 0 where there are no digits, else their number, if it is no greater than the greatest
abbrev pub digits_of : ℕ → List ℕ → Option ℕ
digits_of most [] = Some 0
digits_of most (c ∷ t) = numeral_of 10 most (c ∷ t)
