-- Texts taken apart and numbers read: what the definitions compute to.
-- Assumes nothing.
use Rattle.std.specs.Prelude.{◌≡◌, refl, [], ◌∷◌, None}
use Rattle.typed_texts.specs.Texts.{text_before, text_behind, unsigned}
use Rattle.typed_texts.specs.Numbers.{digit_of, numeral_of}

-- `-1F 8` by its blank
before_blank : text_before 32 (45 ∷ 49 ∷ 70 ∷ 32 ∷ 56 ∷ []) ≡ 45 ∷ 49 ∷ 70 ∷ []
before_blank = refl

behind_blank : text_behind 32 (45 ∷ 49 ∷ 70 ∷ 32 ∷ 56 ∷ []) ≡ 56 ∷ []
behind_blank = refl

no_decimal : numeral_of 10 31 (unsigned (45 ∷ 49 ∷ 70 ∷ [])) ≡ None
unfolding digit_of
no_decimal = refl

too_great : numeral_of 16 30 (unsigned (45 ∷ 49 ∷ 70 ∷ [])) ≡ None
unfolding digit_of
too_great = refl
