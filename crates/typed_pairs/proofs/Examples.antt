-- Lines typed: what the definitions compute to.
-- Assumes nothing.
use Rattle.std.specs.Prelude.{◌≡◌, refl, [], ◌∷◌, ◌++◌, pos, replicate}
use Rattle.text.specs.Ascii.{ascii}
use Rattle.signed_numbers.specs.Signed.{signed_of}
use Rattle.typed_texts.specs.Numbers.{digit_of}
use Rattle.typed_figures.specs.Figures.{parts_read, figure_of}
use Rattle.typed_pairs.specs.declared.TypedLine.{TypedLine}
use Rattle.typed_pairs.specs.Pairs.{pair_in, line_of}

with_return : line_of (ascii "5000003E 1" ++ (13 ∷ [])) ≡ TypedLine.Pair 0x5000003E (pos 1000000)
unfolding line_of pair_in figure_of parts_read signed_of digit_of
with_return = refl

text_behind_lem : line_of (ascii "5000003E 1 m") ≡ TypedLine.Unread
unfolding line_of pair_in figure_of parts_read signed_of digit_of
text_behind_lem = refl

return_alone : line_of (13 ∷ []) ≡ TypedLine.Passed
unfolding line_of
return_alone = refl

comment : line_of (ascii "#5000003E 1") ≡ TypedLine.Passed
unfolding line_of
comment = refl

too_long : line_of (ascii "5000003E 1" ++ replicate 191 32) ≡ TypedLine.Unread
unfolding line_of
too_long = refl
