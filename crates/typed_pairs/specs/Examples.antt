-- Lines typed: what the definitions compute to.
-- Assumes nothing.
use Rattle.std.specs.Prelude.{◌≡◌, refl, ◌++◌, pos, negsuc, replicate}
use Rattle.text.specs.Ascii.{ascii}
use Rattle.signed_numbers.specs.Signed.{signed_of}
use Rattle.typed_texts.specs.Numbers.{digit_of}
use Rattle.typed_figures.specs.Figures.{parts_read, figure_of}
use Rattle.typed_pairs.specs.declared.TypedLine.{TypedLine}
use Rattle.typed_pairs.specs.Pairs.{pair_in, line_of}

blanks_around : line_of (ascii " 5000003e  -0,8 ") ≡ TypedLine.Pair 0x5000003E (negsuc 799999)
unfolding line_of pair_in figure_of parts_read signed_of digit_of
blanks_around = refl

word_alone : line_of (ascii "5000003E") ≡ TypedLine.Unread
unfolding line_of pair_in figure_of parts_read signed_of digit_of
word_alone = refl

blanks_alone : line_of (ascii "  ") ≡ TypedLine.Unread
unfolding line_of pair_in figure_of parts_read signed_of digit_of
blanks_alone = refl

-- 200 bytes are taken, and 201 are not
longest-taken : line_of (ascii "5000003E 1" ++ replicate 190 32) ≡ TypedLine.Pair 0x5000003E (pos 1000000)
unfolding line_of pair_in figure_of parts_read signed_of digit_of
longest-taken = refl
