-- Typed figures: what the definitions compute to.
-- Assumes nothing.
use Rattle.std.specs.Prelude.{◌≡◌, refl, ◌-◌, pos, Some, None}
use Rattle.text.specs.Ascii.{ascii}
use Rattle.signed_numbers.specs.Signed.{signed_of}
use Rattle.typed_texts.specs.Numbers.{digit_of}
use Rattle.typed_figures.specs.Figures.{parts_read, figure_of}

whole-with_point : figure_of (ascii "5.") ≡ Some (pos 5000000)
unfolding figure_of parts_read signed_of digit_of
whole-with_point = refl

minus_zero : figure_of (ascii "-0") ≡ Some (pos 0)
unfolding figure_of parts_read signed_of digit_of
minus_zero = refl

too_large : figure_of (ascii "9223372036854.775808") ≡ None
unfolding figure_of parts_read signed_of digit_of
too_large = refl

two_separators : figure_of (ascii "1,5.2") ≡ None
unfolding figure_of parts_read signed_of digit_of
two_separators = refl

two_signs : figure_of (ascii "+-1") ≡ None
unfolding figure_of parts_read signed_of digit_of
two_signs = refl
