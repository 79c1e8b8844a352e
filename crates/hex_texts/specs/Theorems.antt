-- What is written in hex digits is read back: the digits of a byte mean the byte, those of a word the word.
-- Assumes nothing.
use Rattle.std.specs.Prelude.{◌≡◌, refl, ℕ, ◌+◌, ◌*◌, ◌/◌, ◌%◌, ◌^◌, ◌<◌, eqb}
use Rattle.std.proofs.Common.{ap, ◌∙◌, arith, eqb-true}
use Rattle.hex_texts.specs.HexTexts.{hex_digit}
use Rattle.hex_texts.specs.Reading.{hex_digits, place_in}
use Rattle.hex_texts.specs.Every.{every-at}

-- ---- digits read one at a time, by any reading f that gives each its value

-- the two digits of a byte, behind a number that was read
abbrev byte_behind : (ℕ → ℕ) → ℕ → ℕ → ℕ
byte_behind f v b = (v * 16 + f (hex_digit (b / 16 % 16))) * 16 + f (hex_digit (b % 16))

-- the eight digits of a word
abbrev pub digits_of_word : (ℕ → ℕ) → ℕ → ℕ
digits_of_word f w = byte_behind f (byte_behind f (byte_behind f (byte_behind f 0 (w / 0x1000000 % 256)) (w / 0x10000 % 256)) (w / 0x100 % 256)) (w % 256)

two_digits : (v b x y : ℕ) → b < 256 → x ≡ b / 16 % 16 → y ≡ b % 16 → (v * 16 + x) * 16 + y ≡ v * 256 + b
two_digits v b x y h e f = omega arith

-- a byte behind the bytes above it
first_byte : (w : ℕ) → w < 2 ^ 32 → 0 * 256 + w / 0x1000000 % 256 ≡ w / 0x1000000
first_byte w h = omega arith

second_byte : (w : ℕ) → w / 0x1000000 * 256 + w / 0x10000 % 256 ≡ w / 0x10000
second_byte w = omega arith

third_byte : (w : ℕ) → w / 0x10000 * 256 + w / 0x100 % 256 ≡ w / 0x100
third_byte w = omega arith

fourth_byte : (w : ℕ) → w / 0x100 * 256 + w % 256 ≡ w
fourth_byte w = omega arith

module _ (f : ℕ → ℕ) (reads : (d : ℕ) → d < 16 → f (hex_digit d) ≡ d) where
  byte_behind_lem : (v b : ℕ) → b < 256 → byte_behind f v b ≡ v * 256 + b
  byte_behind_lem v b h =
      two_digits v b (f (hex_digit (b / 16 % 16))) (f (hex_digit (b % 16))) h (reads (b / 16 % 16) (omega arith)) (reads (b % 16) (omega arith))

  pub word_by_digits : (w : ℕ) → w < 2 ^ 32 → digits_of_word f w ≡ w
  word_by_digits w h =
      let one = byte_behind_lem 0 (w / 0x1000000 % 256) (omega arith) ∙ first_byte w h in
      let two = ap (λ (v : ℕ). byte_behind f v (w / 0x10000 % 256)) one ∙ byte_behind_lem (w / 0x1000000) (w / 0x10000 % 256) (omega arith) ∙ second_byte w in
      let three = ap (λ (v : ℕ). byte_behind f v (w / 0x100 % 256)) two ∙ byte_behind_lem (w / 0x10000) (w / 0x100 % 256) (omega arith) ∙ third_byte w in
      ap (λ (v : ℕ). byte_behind f v (w % 256)) three ∙ byte_behind_lem (w / 0x100) (w % 256) (omega arith) ∙ fourth_byte w

-- ---- hex digits

-- A digit's place in the list is its value: computed for the sixteen.
pub digit_read : (d : ℕ) → d < 16 → place_in hex_digits (hex_digit d) ≡ d
digit_read d h = eqb-true (place_in hex_digits (hex_digit d)) d (every-at (λ (x : ℕ). eqb (place_in hex_digits (hex_digit x)) x) 16 refl d h)

-- The two digits of a byte mean it, behind a number that was read and by themselves.
pub byte_after : (v b : ℕ) → b < 256
    → (v * 16 + place_in hex_digits (hex_digit (b / 16 % 16))) * 16 + place_in hex_digits (hex_digit (b % 16)) ≡ v * 256 + b
byte_after = byte_behind_lem (place_in hex_digits) digit_read
