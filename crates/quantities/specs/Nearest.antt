-- The count nearest to a figure, and the figure printed for a count.
use Rattle.std.specs.Prelude.{Bool, true, false, not, cond, ℕ, ◌+◌, ◌-◌, ◌*◌, ◌/◌, ◌%◌, min, leb, ℤ, nat_abs, Option, Some, None}
use Rattle.rounding.specs.Parts.{is_negative, with_sign}
use Rattle.rounding.specs.Rounding.{round_even}
use Rattle.quantities.specs.declared.Quantity.{Quantity}
use Rattle.quantities.specs.declared.Scale.{Scale}
use Rattle.quantities.specs.Scale.{scale_of, on_circle, last_count}

-- the size of the farthest figure within half a step of the last count of its sign
abbrev pub reach : Scale → Bool → ℕ
reach s negative = (2 * last_count s negative + 1) * s.numerator / (2 * s.denominator)

-- a figure's size over the step, rounded half to even
abbrev pub rounded_count : Scale → ℕ → ℕ
rounded_count s size = round_even (size * s.denominator) s.numerator

-- on a line: the rounded count, or the last one where that is past it
unfoldable pub line_nearest : Scale → Bool → ℕ → Option ℤ
line_nearest s negative size =
    cond (leb size (reach s negative))
    (Some (with_sign negative (min (rounded_count s size) (last_count s negative))))
    None

-- the counts of a whole turn
abbrev pub turn_counts : Scale → ℕ
turn_counts s = s.below + s.above + 1

-- a count of any size, less whole turns: of its own sign where that is legal, and else counted the other way round
unfoldable pub wrap : Scale → Bool → ℕ → ℤ
wrap s negative count =
    cond (leb (count % turn_counts s) (last_count s negative))
    (with_sign negative (count % turn_counts s))
    (with_sign (not negative) (turn_counts s - count % turn_counts s))

-- the size of the farthest azimuth of a sign, in millionths of a degree: -180 is taken, and 360 is not
abbrev pub farthest : Bool → ℕ
farthest true = 180000000
farthest false = 359999999

-- on the circle: the rounded count, less whole turns
unfoldable pub circle_nearest : Scale → Bool → ℕ → Option ℤ
circle_nearest s negative size =
    cond (leb size (farthest negative))
    (Some (wrap s negative (rounded_count s size)))
    None

-- the legal count nearest to a figure in millionths
unfoldable pub nearest_count : Quantity → ℤ → Option ℤ
nearest_count q figure =
    cond (on_circle q)
    (circle_nearest (scale_of q) (is_negative figure) (nat_abs figure))
    (line_nearest (scale_of q) (is_negative figure) (nat_abs figure))

-- the millionths printed for a count: the size of its exact value, rounded half to even, with the count's sign
unfoldable pub millionths_of : Quantity → ℤ → ℤ
millionths_of q count = with_sign (is_negative count) (round_even (nat_abs count * (scale_of q).numerator) (scale_of q).denominator)
