-- What the proofs of `Theorems` cite: a digit by its place in the lists, the digits of a text, and the bytes of a word.
-- Assumes nothing.
use Rattle.std.specs.Prelude.{◌≡◌, refl, true, not, ◌&&◌, ◌||◌, ◌⊎◌, List, [], ◌∷◌, ℕ, ◌+◌, ◌*◌, ◌^◌, ◌<◌, eqb, ltb, get_or}
use Rattle.std.proofs.Common.{sym, ap, ap₂, ◌∙◌, inl, inr, arith, eqb-true, ltb-true, lt-ltb}
use Rattle.hex_texts.specs.HexTexts.{hex_digit}
use Rattle.hex_texts.specs.Reading.{hex_digits, place_in}
use Rattle.hex_texts.specs.Every.{every-at, both}
use Rattle.typed_texts.specs.Numbers.{digit_of, value_of, are_digits}
use Rattle.typed_texts.proofs.NumberLaws.{first_weighs}
use Rattle.typed_words.specs.Eight.{small_digits, IsDigit, AreDigits, weighed, capital, capitals}
use Rattle.typed_words.specs.Lemmas.{place_back, capital-at, of-digits, either, placed, digits_of, same_length, Small, written}

small_at : (d : ℕ) → d < 16 → digit_of (get_or small_digits d 0) ≡ d
unfolding digit_of
small_at d h = eqb-true (digit_of (get_or small_digits d 0)) d (every-at (λ (x : ℕ). eqb (digit_of (get_or small_digits x 0)) x) 16 refl d h)

pub digit_there : (c d : ℕ) → IsDigit c d → digit_of c ≡ d
digit_there c d (h, inl e) =
    ap digit_of (sym (place_back hex_digits c (omega (arith, e))) ∙ ap (λ (n : ℕ). get_or hex_digits n 0) e) ∙ capital-at d h
digit_there c d (h, inr e) =
    ap digit_of (sym (place_back small_digits c (omega (arith, e))) ∙ ap (λ (n : ℕ). get_or small_digits n 0) e) ∙ small_at d h

places_tested : (x : ℕ) → x < 103 → (not (ltb (digit_of x) 16) || placed x) ≡ true
unfolding digit_of
places_tested = every-at (λ (x : ℕ). not (ltb (digit_of x) 16) || placed x) 103 refl

pub is_digit : (c : ℕ) → digit_of c < 16 → IsDigit c (digit_of c)
is_digit c h = (h, by (either (eqb (place_in hex_digits c) (digit_of c)) (eqb (place_in small_digits c) (digit_of c)) (of-digits placed c places_tested h)))
  where
    by : (eqb (place_in hex_digits c) (digit_of c) ≡ true) ⊎ (eqb (place_in small_digits c) (digit_of c) ≡ true)
        → (place_in hex_digits c ≡ digit_of c) ⊎ (place_in small_digits c ≡ digit_of c)
    by (inl e) = inl (eqb-true (place_in hex_digits c) (digit_of c) e)
    by (inr e) = inr (eqb-true (place_in small_digits c) (digit_of c) e)

-- a digit written is the typed one with a capital
capitals-tested : (x : ℕ) → x < 103 → (not (ltb (digit_of x) 16) || eqb (hex_digit (digit_of x)) (capital x)) ≡ true
unfolding digit_of
capitals-tested = every-at (λ (x : ℕ). not (ltb (digit_of x) 16) || eqb (hex_digit (digit_of x)) (capital x)) 103 refl

digit-capital : (c : ℕ) → digit_of c < 16 → hex_digit (digit_of c) ≡ capital c
digit-capital c h =
    eqb-true (hex_digit (digit_of c)) (capital c) (of-digits (λ (x : ℕ). eqb (hex_digit (digit_of x)) (capital x)) c capitals-tested h)

pub digits_weigh : (t : List ℕ) → value_of 16 t ≡ weighed (digits_of t)
digits_weigh [] = refl
digits_weigh (c ∷ t) =
    first_weighs 16 c t ∙ ap₂ (λ (n v : ℕ). digit_of c * 16 ^ n + v) (sym (same_length t)) (digits_weigh t)

pub digits_there : (t : List ℕ) → are_digits 16 t ≡ true → AreDigits t (digits_of t)
digits_there [] e = tt
digits_there (c ∷ t) e =
    let parts = both (ltb (digit_of c) 16) (are_digits 16 t) e in
    (is_digit c (ltb-true (digit_of c) 16 parts.0), digits_there t parts.1)

pub are_digits_lem : (t ds : List ℕ) → AreDigits t ds → (are_digits 16 t ≡ true) × (ds ≡ digits_of t)
are_digits_lem [] [] h = (refl, refl)
are_digits_lem [] (d ∷ ds) h = absurd h
are_digits_lem (c ∷ t) [] h = absurd h
are_digits_lem (c ∷ t) (d ∷ ds) h =
    let e = digit_there c d h.0 in
    let rest = are_digits_lem t ds h.1 in
    (ap₂ ◌&&◌ (lt-ltb (digit_of c) 16 (omega (arith, e, h.0.0))) rest.0, ap₂ ◌∷◌ (sym e) rest.1)

pub all-capitals : (t : List ℕ) → Small t → written t ≡ capitals t
all-capitals [] h = refl
all-capitals (c ∷ t) h = ap₂ ◌∷◌ (digit-capital c h.0) (all-capitals t h.1)
