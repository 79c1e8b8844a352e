-- A text is a word exactly where it is eight hex digits; a word that is written is read back, and one that is read is written with the same digits, in capitals.
-- Assumes nothing.
use Rattle.std.specs.Prelude.{◌≡◌, true, List, ℕ, length}
use Rattle.typed_texts.specs.Numbers.{value_of, are_digits}

-- ---- a text that is a word, by the tests of its digits

pub record Typed (t : List ℕ) (w : ℕ) : Type 0 where
  pub eight : length t ≡ 8
  pub digits : are_digits 16 t ≡ true
  pub value : value_of 16 t ≡ w

-- ---- the laws
