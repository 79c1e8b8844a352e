-- Words typed: what the definitions compute to.
-- Assumes nothing.
use Rattle.std.specs.Prelude.{◌≡◌, refl, Some, None}
use Rattle.text.specs.Ascii.{ascii}
use Rattle.typed_texts.specs.Numbers.{digit_of}
use Rattle.typed_words.specs.Words.{word_of}

either_case : word_of (ascii "6aB0041f") ≡ Some 0x6AB0041F
unfolding digit_of
either_case = refl

nine : word_of (ascii "06AB0041F") ≡ None
nine = refl
