-- Texts taken apart and numbers read: what the definitions compute to.
-- Assumes nothing.
use Rattle.std.specs.Prelude.{◌≡◌, refl, [], ◌∷◌, Some}
use Rattle.typed_texts.specs.Texts.{unsigned}
use Rattle.typed_texts.specs.Numbers.{digit_of, numeral_of}

-- `-1F` without its sign is 31 in base 16, no number in base 10, and none up to 30
hexadecimal : numeral_of 16 31 (unsigned (45 ∷ 49 ∷ 70 ∷ [])) ≡ Some 31
unfolding digit_of
hexadecimal = refl

-- `1f` is the same
small_letter : numeral_of 16 31 (49 ∷ 102 ∷ []) ≡ Some 31
unfolding digit_of
small_letter = refl
