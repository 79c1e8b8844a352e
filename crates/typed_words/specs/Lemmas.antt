-- What the proofs of `Theorems` cite: a digit by its place in the lists, the digits of a text, and the bytes of a word.
-- Assumes nothing.
use Rattle.std.specs.Prelude.{◌≡◌, refl, Bool, true, false, cond, not, ◌&&◌, ◌||◌, ◌⊎◌, List, [], ◌∷◌, ◌++◌, ℕ, suc, ◌+◌, ◌*◌, ◌/◌, ◌%◌, ◌^◌, ◌≤◌, ◌<◌, eqb, ltb, length, get_or}
use Rattle.std.proofs.Common.{sym, ap, ap₂, subst, ◌∙◌, inl, inr, mul-le-mul_right, arith, eqb-true, ltb-true, lt-ltb, le-ltb}
use Rattle.std.proofs.Math.Nat.{pow-succ'}
use Rattle.std.proofs.Math.Decide.{dec_le}
use Rattle.std.proofs.lemmas.Bool.{lt-leb}
use Rattle.hex_texts.specs.HexTexts.{hex_digit, hex_byte, word_text}
use Rattle.hex_texts.specs.Reading.{hex_digits, place_in}
use Rattle.hex_texts.specs.Every.{every-at, both}
use Rattle.typed_texts.specs.Numbers.{digit_of, value_of, are_digits}
use Rattle.typed_texts.proofs.NumberLaws.{first_weighs}
use Rattle.typed_words.specs.Eight.{small_digits, capital, capitals, InCapitals}

-- ---- a digit

-- what stands at the place of a byte is the byte
pub place_back : (l : List ℕ) (c : ℕ) → place_in l c < length l → get_or l (place_in l c) 0 ≡ c
place_back [] c h = absurd (omega arith)
place_back (x ∷ l) c h = by (eqb c x) refl h (place_back l c)
  where
    by : (b : Bool) → eqb c x ≡ b → cond b 0 (suc (place_in l c)) < suc (length l) → (place_in l c < length l → get_or l (place_in l c) 0 ≡ c)
        → get_or (x ∷ l) (cond b 0 (suc (place_in l c))) 0 ≡ c
    by true e k later = sym (eqb-true c x e)
    by false e k later = later (omega arith)

-- the digits of both lists: computed for the sixteen places
pub capital-at : (d : ℕ) → d < 16 → digit_of (get_or hex_digits d 0) ≡ d
unfolding digit_of
capital-at d h = eqb-true (digit_of (get_or hex_digits d 0)) d (every-at (λ (x : ℕ). eqb (digit_of (get_or hex_digits x 0)) x) 16 refl d h)

-- no digit stands behind `f`
behind_f : (c : ℕ) → 103 ≤ c → digit_of c ≡ 255
unfolding digit_of
behind_f c h =
    simp
    (le-ltb c 48 (omega arith), lt-leb c 57 (omega arith), le-ltb c 65 (omega arith), lt-leb c 70 (omega arith), le-ltb c 97 (omega arith), lt-leb c 102 (omega arith))

-- a test of every digit: computed for the bytes up to `f`
pub of-digits : (p : ℕ → Bool) (c : ℕ) → ((x : ℕ) → x < 103 → (not (ltb (digit_of x) 16) || p x) ≡ true) → digit_of c < 16 → p c ≡ true
of-digits p c all h = by (dec_le 103 c)
  where
    passed : (b : Bool) → (not true || b) ≡ true → b ≡ true
    passed b e = e

    by : Dec (103 ≤ c) → p c ≡ true
    by (yes k) = absurd (omega (arith, behind_f c k))
    by (no k) = passed (p c) (ap (λ (b : Bool). not b || p c) (sym (lt-ltb (digit_of c) 16 h)) ∙ all c (omega arith))

pub either : (a b : Bool) → (a || b) ≡ true → (a ≡ true) ⊎ (b ≡ true)
either true b e = inl refl
either false b e = inr e

abbrev pub placed : ℕ → Bool
placed x = eqb (place_in hex_digits x) (digit_of x) || eqb (place_in small_digits x) (digit_of x)

-- a digit of the capitals is left
capital-left : (c : ℕ) → place_in hex_digits c < 16 → capital c ≡ c
capital-left c h =
    let same : get_or hex_digits (place_in hex_digits c) 0 ≡ c = place_back hex_digits c h in
    ap capital (sym same)
    ∙ eqb-true (capital (get_or hex_digits (place_in hex_digits c) 0)) (get_or hex_digits (place_in hex_digits c) 0)
    (every-at (λ (x : ℕ). eqb (capital (get_or hex_digits x 0)) (get_or hex_digits x 0)) 16 refl (place_in hex_digits c) h)
    ∙ same

-- a digit that is written is read again
pub digit-written : (d : ℕ) → d < 16 → digit_of (hex_digit d) ≡ d
unfolding digit_of
digit-written d h = eqb-true (digit_of (hex_digit d)) d (every-at (λ (x : ℕ). eqb (digit_of (hex_digit x)) x) 16 refl d h)

-- ---- the digits of a text

abbrev pub digits_of : List ℕ → List ℕ
digits_of [] = []
digits_of (c ∷ t) = digit_of c ∷ digits_of t

pub same_length : (t : List ℕ) → length (digits_of t) ≡ length t
same_length [] = refl
same_length (c ∷ t) = ap suc (same_length t)

-- each is a digit below 16, and written again it is the typed one with a capital
abbrev pub Small : List ℕ → Type 0
Small [] = Unit {0}
Small (c ∷ t) = (digit_of c < 16) × Small t

pub all_small : (t : List ℕ) → are_digits 16 t ≡ true → Small t
all_small [] e = tt
all_small (c ∷ t) e =
    let parts = both (ltb (digit_of c) 16) (are_digits 16 t) e in
    (ltb-true (digit_of c) 16 parts.0, all_small t parts.1)

abbrev pub written : List ℕ → List ℕ
written [] = []
written (c ∷ t) = hex_digit (digit_of c) ∷ written t

pub capitals-left : (t : List ℕ) → InCapitals t → capitals t ≡ t
capitals-left [] h = refl
capitals-left (c ∷ t) h = ap₂ ◌∷◌ (capital-left c h.0) (capitals-left t h.1)

-- so many digits make no greater number
below : (d p v q : ℕ) → d < 16 → v < p → q ≡ 16 * p → d * p + v < q
below d p v q h k e = omega (arith, times)
  where
    times : d * p ≤ 15 * p
    times = mul-le-mul_right p (omega arith)

pub digits-below : (t : List ℕ) → are_digits 16 t ≡ true → value_of 16 t < 16 ^ length t
digits-below [] e = omega arith
digits-below (c ∷ t) e =
    let parts = both (ltb (digit_of c) 16) (are_digits 16 t) e in
    subst (λ (x : ℕ). x < 16 ^ suc (length t)) (sym (first_weighs 16 c t))
    (below (digit_of c) (16 ^ length t) (value_of 16 t) (16 ^ suc (length t)) (ltb-true (digit_of c) 16 parts.0) (digits-below t parts.1) (pow-succ' 16 (length t)))

-- ---- the digits that a word is written in

passes : (d : ℕ) → d < 16 → ltb (digit_of (hex_digit d)) 16 ≡ true
passes d h = lt-ltb (digit_of (hex_digit d)) 16 (omega (arith, digit-written d h))

byte_passes : (b : ℕ) (t : List ℕ) → are_digits 16 (hex_byte b ++ t) ≡ are_digits 16 t
byte_passes b t =
    ap₂ (λ (x y : Bool). x && (y && are_digits 16 t)) (passes (b / 16 % 16) (omega arith)) (passes (b % 16) (omega arith))

pub word_passes : (w : ℕ) → are_digits 16 (word_text w) ≡ true
word_passes w =
    byte_passes (w / 0x1000000 % 256) (hex_byte (w / 0x10000 % 256) ++ hex_byte (w / 0x100 % 256) ++ hex_byte (w % 256))
    ∙ byte_passes (w / 0x10000 % 256) (hex_byte (w / 0x100 % 256) ++ hex_byte (w % 256))
    ∙ byte_passes (w / 0x100 % 256) (hex_byte (w % 256))
    ∙ byte_passes (w % 256) []

-- ---- the bytes of a word from its digits

high_digit : (x y : ℕ) → x < 16 → y < 16 → (x * 16 + y) / 16 % 16 ≡ x
high_digit x y h k = omega arith

low_digit : (x y : ℕ) → x < 16 → y < 16 → (x * 16 + y) % 16 ≡ y
low_digit x y h k = omega arith

byte_digits : (b x y : ℕ) → x < 16 → y < 16 → b ≡ x * 16 + y → hex_byte b ≡ hex_digit x ∷ hex_digit y ∷ []
byte_digits b x y h k e =
    ap hex_byte e ∙ ap₂ (λ (u v : ℕ). hex_digit u ∷ hex_digit v ∷ []) (high_digit x y h k) (low_digit x y h k)

module _ (w p q r s : ℕ) (e : w ≡ ((p * 256 + q) * 256 + r) * 256 + s) (hp : p < 256) (hq : q < 256) (hr : r < 256) (hs : s < 256) where
  first : w / 0x1000000 % 256 ≡ p
  first = omega arith

  second : w / 0x10000 % 256 ≡ q
  second = omega arith

  third : w / 0x100 % 256 ≡ r
  third = omega arith

  fourth : w % 256 ≡ s
  fourth = omega arith

pub eight_written : (w a b c d e f g h : ℕ) → a < 16 → b < 16 → c < 16 → d < 16 → e < 16 → f < 16 → g < 16 → h < 16
    → w ≡ (((((((0 * 16 + a) * 16 + b) * 16 + c) * 16 + d) * 16 + e) * 16 + f) * 16 + g) * 16 + h
    → word_text w ≡ hex_digit a ∷ hex_digit b ∷ hex_digit c ∷ hex_digit d ∷ hex_digit e ∷ hex_digit f ∷ hex_digit g ∷ hex_digit h ∷ []
eight_written w a b c d e f g h ha hb hc hd he hf hg hh same =
    let p = a * 16 + b in
    let q = c * 16 + d in
    let r = e * 16 + f in
    let s = g * 16 + h in
    let by_bytes : w ≡ ((p * 256 + q) * 256 + r) * 256 + s = omega arith in
    let hp : p < 256 = omega arith in
    let hq : q < 256 = omega arith in
    let hr : r < 256 = omega arith in
    let hs : s < 256 = omega arith in
    ap₂ ◌++◌
    (ap₂ ◌++◌
    (ap₂ ◌++◌
    (byte_digits (w / 0x1000000 % 256) a b ha hb (first w p q r s by_bytes hp hq hr hs))
    (byte_digits (w / 0x10000 % 256) c d hc hd (second w p q r s by_bytes hp hq hr hs)))
    (byte_digits (w / 0x100 % 256) e f he hf (third w p q r s by_bytes hp hq hr hs)))
    (byte_digits (w % 256) g h hg hh (fourth w p q r s by_bytes hp hq hr hs))
