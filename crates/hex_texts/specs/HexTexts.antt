-- Bytes and words in hex digits, the highest first.
-- Assumes nothing.
use Rattle.std.specs.Prelude.{◌≡◌, refl, cond, List, [], ◌∷◌, ◌++◌, ℕ, ◌+◌, ◌/◌, ◌%◌, ◌≤◌, ◌<◌, ltb}
use Rattle.std.proofs.Common.{lt-ltb, le-ltb}

-- a digit: A to F for 10 to 15
abbrev pub hex_digit : ℕ → ℕ
hex_digit d = cond (ltb d 10) (48 + d) (55 + d)

-- a byte in two digits, the higher first
abbrev pub hex_byte : ℕ → List ℕ
hex_byte b = hex_digit (b / 16 % 16) ∷ hex_digit (b % 16) ∷ []

-- a word of 32 bits in eight digits: its four bytes, the highest first
abbrev pub word_text : ℕ → List ℕ
word_text w = hex_byte (w / 0x1000000 % 256) ++ hex_byte (w / 0x10000 % 256) ++ hex_byte (w / 0x100 % 256) ++ hex_byte (w % 256)

-- ---- what the proofs of the writers cite

-- a digit by whether it is below ten
pub digit-below : (d : ℕ) → d < 10 → (48 + d) ∷ [] ≡ hex_digit d ∷ []
digit-below d h = rw (lt-ltb d 10 h) refl

pub digit_above : (d : ℕ) → 10 ≤ d → (55 + d) ∷ [] ≡ hex_digit d ∷ []
digit_above d h = rw (le-ltb d 10 h) refl
