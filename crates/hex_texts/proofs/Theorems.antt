-- What is written in hex digits is read back: the digits of a byte mean the byte, those of a word the word.
-- Assumes nothing.
use Rattle.std.specs.Prelude.{◌≡◌, refl, ℕ, ◌^◌, ◌<◌, length}
use Rattle.std.proofs.Common.{◌∙◌, arith}
use Rattle.hex_texts.specs.HexTexts.{hex_byte, word_text}
use Rattle.hex_texts.specs.Reading.{hex_digits, place_in, hex_value}
use Rattle.hex_texts.specs.Theorems.{word_by_digits, digit_read, byte_after}

pub hex_byte_read : (b : ℕ) → b < 256 → hex_value (hex_byte b) ≡ b
hex_byte_read b h = byte_after 0 b h ∙ omega arith

-- The digits of a word are eight, and mean the word.
pub word_text_read : (w : ℕ) → w < 2 ^ 32 → (length (word_text w) ≡ 8) × (hex_value (word_text w) ≡ w)
word_text_read w h = (refl, word_by_digits (place_in hex_digits) digit_read w h)
