-- Typed figures: what the definitions compute to.
-- Assumes nothing.
use Rattle.std.specs.Prelude.{◌≡◌, refl, ◌-◌, ◌^◌, pos, negsuc, Some, None}
use Rattle.text.specs.Ascii.{ascii}
use Rattle.signed_numbers.specs.Signed.{signed_of}
use Rattle.typed_texts.specs.Numbers.{digit_of}
use Rattle.typed_figures.specs.Figures.{parts_read, figure_of}

below-zero : figure_of (ascii "-7,25") ≡ Some (negsuc 7249999)
unfolding figure_of parts_read signed_of digit_of
below-zero = refl

plus_tenth : figure_of (ascii "+.1") ≡ Some (pos 100000)
unfolding figure_of parts_read signed_of digit_of
plus_tenth = refl

leading_zeros : figure_of (ascii "007.50") ≡ Some (pos 7500000)
unfolding figure_of parts_read signed_of digit_of
leading_zeros = refl

least : figure_of (ascii "-9223372036854.775808") ≡ Some (negsuc (2 ^ 63 - 1))
unfolding figure_of parts_read signed_of digit_of
least = refl

no_digits : figure_of (ascii "-.") ≡ None
unfolding figure_of parts_read signed_of digit_of
no_digits = refl

seven_decimals : figure_of (ascii "1.0000000") ≡ None
unfolding figure_of parts_read signed_of digit_of
seven_decimals = refl
