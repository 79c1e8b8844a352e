-- A signed number by its part on one side of 0 and its part on the other, so that one proof serves both signs.
use Rattle.std.specs.Prelude.{◌≡◌, refl, Bool, true, false, not, ℕ, suc, ◌+◌, ◌-◌, ◌*◌, ◌≤◌, ◌<◌, ℤ, pos, negsuc, neg_ℤ, nat_abs, ◌*ℤ◌}
use Rattle.std.proofs.Common.{ap, zero-mul, arith}
use Rattle.rounding.specs.Parts.{is_negative, with_sign, positive_part, negative_part, distance, one-part, positive_neg, negative_neg, parts-equal, parts-le, le_parts}
use Rattle.rounding.specs.Rounding.{Rounded}
use Rattle.rounding.specs.Laws.{error-parts, rounded-signed}
use Rattle.quantities.specs.declared.Scale.{Scale}
use Rattle.quantities.specs.Scale.{Sound, last_count}
use Rattle.quantities.specs.Nearest.{rounded_count, turn_counts}
use Rattle.quantities.specs.Statements.{LegalCount, gap}

-- the size of z where it has this sign, and 0 elsewhere
abbrev pub side : Bool → ℤ → ℕ
side false z = positive_part z
side true z = negative_part z

pub side-signed : (b : Bool) (n : ℕ) → side b (with_sign b n) ≡ n
side-signed false n = refl
side-signed true n = negative_neg (pos n)

pub other_side-signed : (b : Bool) (n : ℕ) → side (not b) (with_sign b n) ≡ 0
other_side-signed false n = refl
other_side-signed true n = positive_neg (pos n)

-- by its sides z is a size and a sign
pub sides_equal : (b : Bool) (x y : ℤ) → side b x + side (not b) y ≡ side b y + side (not b) x → x ≡ y
sides_equal false x y h = parts-equal x y h
sides_equal true x y h = parts-equal x y (omega arith)

-- the legal counts, by their sides
pub legal_side : (s : Scale) (c : ℤ) → LegalCount s c → (b : Bool) → side b c ≤ last_count s b
legal_side s c h false = omega (arith, one-part c, le_parts c (pos s.above) h.1)
legal_side s c h true =
    omega
    (arith, one-part c, le_parts (neg_ℤ (pos s.below)) c h.0, positive_neg (pos s.below), negative_neg (pos s.below))

pub side_legal : (s : Scale) (c : ℤ) → ((b : Bool) → side b c ≤ last_count s b) → LegalCount s c
side_legal s c h = (
  parts-le (neg_ℤ (pos s.below)) c (omega (arith, h true, positive_neg (pos s.below), negative_neg (pos s.below))),
  parts-le c (pos s.above) (omega (arith, h false)),
)

pub legal_signed : (s : Scale) (b : Bool) (n : ℕ) → n ≤ last_count s b → LegalCount s (with_sign b n)
legal_signed s b n h = side_legal s (with_sign b n) (go b h)
  where
    go : (b : Bool) → n ≤ last_count s b → (a : Bool) → side a (with_sign b n) ≤ last_count s a
    go false h false = h
    go false h true = omega arith
    go true h false = omega (arith, other_side-signed true n)
    go true h true = omega (arith, side-signed true n)

-- what is left of a turn past the last count of one sign is a count of the other
pub rest_of_turn : (s : Scale) (b : Bool) (n : ℕ) → last_count s b < n → turn_counts s - n ≤ last_count s (not b)
rest_of_turn s false n h = omega arith
rest_of_turn s true n h = omega arith

-- the distance of a figure from a count, by the sides of the figure's sign
pub gap_sides : (s : Scale) (figure c : ℤ) → gap s figure c ≡ distance (nat_abs figure * s.denominator + side (not (is_negative figure)) c * s.numerator) (side (is_negative figure) c * s.numerator)
gap_sides s (pos n) c = omega (arith, error-parts (pos n *ℤ pos s.denominator) s.numerator c)
gap_sides s (negsuc n) c = omega (arith, error-parts (negsuc n *ℤ pos s.denominator) s.numerator c, positive_neg (pos (suc n * s.denominator)), negative_neg (pos (suc n * s.denominator)))

pub gap-signed : (s : Scale) (figure : ℤ) (n : ℕ) → gap s figure (with_sign (is_negative figure) n) ≡ distance (nat_abs figure * s.denominator) (n * s.numerator)
gap-signed s figure n =
    omega
    (arith, gap_sides s figure (with_sign (is_negative figure) n), ap (λ (x : ℕ). x * s.numerator) (side-signed (is_negative figure) n), ap (λ (x : ℕ). x * s.numerator) (other_side-signed (is_negative figure) n), zero-mul s.numerator)

-- a figure's rounded count
pub counted : (s : Scale) → Sound s → (figure : ℤ) → Rounded (figure *ℤ pos s.denominator) s.numerator (with_sign (is_negative figure) (rounded_count s (nat_abs figure)))
counted s k (pos n) = rounded-signed false (n * s.denominator) s.numerator (omega (arith, k))
counted s k (negsuc n) = rounded-signed true (suc n * s.denominator) s.numerator (omega (arith, k))
