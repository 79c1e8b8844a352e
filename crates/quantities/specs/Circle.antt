-- The azimuth: a value moved by whole turns is the value of a count moved by whole turns of counts, so the nearest of all whole
-- numbers, less whole turns, is the nearest count round the circle.
use Rattle.std.specs.Prelude.{◌≡◌, refl, ◌⊎◌, ◌↔◌, Bool, true, false, not, ℕ, zero, suc, ◌+◌, ◌-◌, ◌*◌, ◌/◌, ◌%◌, ◌≤◌, ◌<◌, ℤ, pos, negsuc, neg_ℤ, nat_abs, ◌+ℤ◌, ◌-ℤ◌, ◌*ℤ◌, ◌≤ℤ◌, ◌<ℤ◌, Option, Some, None}
use Rattle.std.proofs.Common.{sym, ap, subst, ◌∙◌, inl, inr, add-mul, zero-mul, mul_assoc, arith, leb→le, le→leb, ltb→lt, lt→ltb}
use Rattle.std.proofs.Math.Nat.{mul-mod_left}
use Rattle.std.proofs.Math.IntN.{+ℤ_assoc, neg_ℤ-+ℤ}
use Rattle.rounding.specs.Parts.{le-or-lt, is_negative, with_sign, positive_part, negative_part, nat_abs_parts, nat_abs_sub, positive_neg, negative_neg, positive_add, negative-add, positive_mul, negative-mul, parts-equal}
use Rattle.rounding.specs.Rounding.{Even, error, Rounded, round_even_ℤ}
use Rattle.rounding.specs.Laws as Laws
use Rattle.rounding.specs.Laws.{below, above}
use Rattle.rounding.proofs.Laws as RoundedLaws
use Rattle.quantities.specs.declared.Scale.{Scale}
use Rattle.quantities.specs.Scale.{Sound, last_count}
use Rattle.quantities.specs.Nearest.{rounded_count, turn_counts, wrap, farthest, circle_nearest}
use Rattle.quantities.specs.Statements.{LegalCount, gap, gap_turned, Shortest, BeyondBy}
use Rattle.quantities.specs.Sides.{legal_signed, rest_of_turn, counted}
use Rattle.quantities.specs.Cases.{circle_within, circle_beyond, wrap_same, wrap_other, count_same, refused-not-count}

-- what makes a scale one of a circle: its counts are 360 degrees, their number is even, and no count is past 180 degrees
pub record Circular (s : Scale) : Type 0 where
  pub whole : turn_counts s * s.numerator ≡ 360000000 * s.denominator
  pub even : turn_counts s % 2 ≡ 0
  pub below_half : s.below * s.numerator ≤ 180000000 * s.denominator
  pub above_half : s.above * s.numerator ≤ 180000000 * s.denominator

-- ---- sums of signed numbers

-- the parts of a sum differ as the sums of the parts do
balance : (x y : ℤ) → positive_part (x +ℤ y) + (negative_part x + negative_part y) ≡ negative_part (x +ℤ y) + (positive_part x + positive_part y)
balance x y = omega (arith, positive_add x y, negative-add x y)

pub with_sign-mul : (b : Bool) (n d : ℕ) → with_sign b n *ℤ pos d ≡ with_sign b (n * d)
with_sign-mul false n d = refl
with_sign-mul true zero d = ap pos (zero-mul d) ∙ sym (ap (λ (x : ℕ). neg_ℤ (pos x)) (zero-mul d))
with_sign-mul true (suc n) d = refl

pub with_sign-add : (b : Bool) (m n : ℕ) → with_sign b m +ℤ with_sign b n ≡ with_sign b (m + n)
with_sign-add false m n = refl
with_sign-add true m n = sym (neg_ℤ-+ℤ (pos m) (pos n))

pub with_sign_cancel : (b : Bool) (m n : ℕ) → m ≤ n → with_sign (not b) m +ℤ with_sign b n ≡ with_sign b (n - m)
with_sign_cancel false m n h =
    parts-equal (neg_ℤ (pos m) +ℤ pos n) (pos (n - m))
    (omega (arith, balance (neg_ℤ (pos m)) (pos n), positive_neg (pos m), negative_neg (pos m)))
with_sign_cancel true m n h =
    parts-equal (pos m +ℤ neg_ℤ (pos n)) (neg_ℤ (pos (n - m)))
    (omega
    (arith, balance (pos m) (neg_ℤ (pos n)), positive_neg (pos n), negative_neg (pos n), positive_neg (pos (n - m)), negative_neg (pos (n - m))))

spread : (a b c t n : ℕ) → (a + (b + c * t)) * n ≡ a * n + (b * n + c * (t * n))
spread a b c t n = omega (arith, add-mul a (b + c * t) n, add-mul b (c * t) n, mul_assoc c t n)

even_multiple : (m n : ℕ) → n % 2 ≡ 0 → m * n % 2 ≡ 0
even_multiple m n h = ap (λ (x : ℕ). x % 2) (ap (λ (x : ℕ). m * x) twice ∙ sym (mul_assoc m (n / 2) 2)) ∙ mul-mod_left (m * (n / 2)) 2
  where
    twice : n ≡ n / 2 * 2
    twice = omega (arith, h)

-- the farthest azimuths, as the order of signed numbers
taken : (figure : ℤ) → nat_abs figure ≤ farthest (is_negative figure) → (figure <ℤ neg_ℤ (pos 180000000)) ⊎ (pos 360000000 ≤ℤ figure) → ⊥
taken (pos n) h (inl b) = b.lt
taken (pos n) h (inr b) = omega (arith, h, leb→le 360000000 n b.le)
taken (negsuc n) h (inl b) = omega (arith, h, ltb→lt 179999999 n b.lt)
taken (negsuc n) h (inr b) = b.le

beyond : (figure : ℤ) → farthest (is_negative figure) < nat_abs figure → (figure <ℤ neg_ℤ (pos 180000000)) ⊎ (pos 360000000 ≤ℤ figure)
beyond (pos n) h = inr (record { le = le→leb 360000000 n h })
beyond (negsuc n) h = inl (record { lt = lt→ltb 179999999 n (omega (arith, h)) })

-- a count, and whole turns of counts
module _ (s : Scale) (circular : Circular s) where
  abbrev pub moved : ℤ → ℤ → ℤ
  moved c t = c +ℤ t *ℤ pos (turn_counts s)

  pub moved-parts : (c t : ℤ) → positive_part (moved c t) + (negative_part c + negative_part t * turn_counts s) ≡ negative_part (moved c t) + (positive_part c + positive_part t * turn_counts s)
  moved-parts c t =
      omega
      (arith, balance c (t *ℤ pos (turn_counts s)), positive_mul t (turn_counts s), negative-mul t (turn_counts s))

  -- the value moved by whole turns is that of the moved count
  pub gap-moved : (figure c t : ℤ) → gap_turned s figure c t ≡ gap s figure (moved c t)
  gap-moved figure c t =
      let turn : ℕ = 360000000 * s.denominator in
      omega (
        arith,
        nat_abs_sub (figure *ℤ pos s.denominator) (c *ℤ pos s.numerator +ℤ t *ℤ pos turn),
        balance (c *ℤ pos s.numerator) (t *ℤ pos turn),
        positive_mul c s.numerator,
        negative-mul c s.numerator,
        positive_mul t turn,
        negative-mul t turn,
        Laws.error-parts (figure *ℤ pos s.denominator) s.numerator (moved c t),
        ap (λ (x : ℕ). x * s.numerator) (moved-parts c t),
        spread (positive_part (moved c t)) (negative_part c) (negative_part t) (turn_counts s) s.numerator,
        spread (negative_part (moved c t)) (positive_part c) (positive_part t) (turn_counts s) s.numerator,
        ap (λ (x : ℕ). positive_part t * x) circular.whole,
        ap (λ (x : ℕ). negative_part t * x) circular.whole,
      )

  -- whole turns do not change whether a count is even
  pub even_moved : (c t : ℤ) → Even (moved c t) → Even c
  even_moved c t h =
      omega
      (arith, h, nat_abs_parts c, nat_abs_parts (moved c t), moved-parts c t, even_multiple (positive_part t) (turn_counts s) circular.even, even_multiple (negative_part t) (turn_counts s) circular.even)

  -- a wrapped count is legal, and moved by some whole turns it is the count again
  pub wrapped_legal : (b : Bool) (count : ℕ) → LegalCount s (wrap s b count)
  wrapped_legal b count = go (le-or-lt (count % turn_counts s) (last_count s b))
    where
      go : (count % turn_counts s ≤ last_count s b) ⊎ (last_count s b < count % turn_counts s) → LegalCount s (wrap s b count)
      go (inl h) = rw (wrap_same s b count h) (legal_signed s b (count % turn_counts s) h)
      go (inr h) =
          rw (wrap_other s b count h)
          (legal_signed s (not b) (turn_counts s - count % turn_counts s) (rest_of_turn s b (count % turn_counts s) h))

-- ---- the shorter way round

sub-sum : (x y z : ℤ) → x -ℤ (y +ℤ z) ≡ x -ℤ y -ℤ z
sub-sum x y z = ap (λ (w : ℤ). x +ℤ w) (neg_ℤ-+ℤ y z) ∙ sym (+ℤ_assoc x (neg_ℤ y) (neg_ℤ z))

-- it exists for every figure and count: the difference, rounded to whole turns
pub shortest : (s : Scale) → Sound s → (figure c : ℤ) → (d : ℕ) × Shortest s figure c d
shortest s k figure c = (
  gap_turned s figure c turns,
  record {
    turns = turns;
    reached = refl;
    least = λ t. omega (arith, as_error turns, as_error t, Laws.nearest (RoundedLaws.rounded difference turn (omega (arith, k.divisor))) t);
  },
)
  where
    turn : ℕ
    turn = 360000000 * s.denominator

    difference : ℤ
    difference = figure *ℤ pos s.denominator -ℤ c *ℤ pos s.numerator

    turns : ℤ
    turns = round_even_ℤ difference turn

    as_error : (t : ℤ) → gap_turned s figure c t ≡ error difference turn t
    as_error t = ap nat_abs (sub-sum (figure *ℤ pos s.denominator) (c *ℤ pos s.numerator) (t *ℤ pos turn))

module _ (s : Scale) (k : Sound s) (circular : Circular s) (figure : ℤ) where
  abbrev pub negative : Bool
  negative = is_negative figure

  abbrev pub count : ℕ
  count = rounded_count s (nat_abs figure)

  abbrev pub coded-count : ℤ
  coded-count = wrap s negative count

  pub rounded : Rounded (figure *ℤ pos s.denominator) s.numerator (with_sign negative count)
  rounded = counted s k figure

  abbrev pub answer : Option ℤ
  answer = circle_nearest s negative (nat_abs figure)

  -- what holds of the coded count holds of the answer
  pub answered : (P : ℤ → Type 0) → P coded-count → (c : ℤ) → answer ≡ Some c → P c
  answered P p c e = go (le-or-lt (nat_abs figure) (farthest negative))
    where
      go : (nat_abs figure ≤ farthest negative) ⊎ (farthest negative < nat_abs figure) → P c
      go (inl h) = subst P (count_same (sym (circle_within s negative (nat_abs figure) h) ∙ e)) p
      go (inr h) = absurd (refused-not-count (sym (circle_beyond s negative (nat_abs figure) h) ∙ e))

  pub circle_refused : (answer ≡ None) ↔ BeyondBy true s figure
  circle_refused = go (le-or-lt (nat_abs figure) (farthest negative))
    where
      go : (nat_abs figure ≤ farthest negative) ⊎ (farthest negative < nat_abs figure) → (answer ≡ None) ↔ BeyondBy true s figure
      go (inl h) =
          (λ e. absurd (refused-not-count (sym e ∙ circle_within s negative (nat_abs figure) h)), λ b. absurd (taken figure h b))
      go (inr h) = (λ _. beyond figure h, λ _. circle_beyond s negative (nat_abs figure) h)
