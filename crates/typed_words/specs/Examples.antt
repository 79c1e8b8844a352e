-- Words typed: what the definitions compute to.
-- Assumes nothing.
use Rattle.std.specs.Prelude.{◌≡◌, refl, None}
use Rattle.text.specs.Ascii.{ascii}
use Rattle.typed_texts.specs.Numbers.{digit_of}
use Rattle.typed_words.specs.Words.{word_of}

-- a blank is no digit, and neither is a letter behind F
blank_before : word_of (ascii " 6AB0041") ≡ None
unfolding digit_of
blank_before = refl

letter_behind : word_of (ascii "6AB0041G") ≡ None
unfolding digit_of
letter_behind = refl

seven : word_of (ascii "6AB0041") ≡ None
seven = refl
