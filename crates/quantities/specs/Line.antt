-- Course, glide and MLS figures: the count that `line_nearest` gives is the nearest legal one. Where the rounded count is past the last
-- legal one, the figure lies exactly half a step past the last, which is then the only nearest.
use Rattle.std.specs.Prelude.{◌≡◌, refl, ◌≢◌, ◌⊎◌, ◌↔◌, Bool, false, not, ℕ, suc, ◌+◌, ◌*◌, ◌≤◌, ◌<◌, min, ℤ, pos, nat_abs, ◌*ℤ◌, Option, Some, None}
use Rattle.std.proofs.Common.{sym, ap, ◌∙◌, inl, inr, add-mul, suc-mul, one-mul, zero-mul, mul_assoc, mul_left_comm, mul-le-mul_right, le-div_iff_mul-le, div-lt_iff_lt-mul, le_of_lt, le_refl, arith}
use Rattle.std.proofs.Math.Nat.{min-eq_left, min-eq_right, eq_of_mul-eq-mul_right}
use Rattle.rounding.specs.Parts.{le-or-lt, is_negative, with_sign}
use Rattle.rounding.specs.Rounding.{Rounded}
use Rattle.rounding.specs.Laws as Laws
use Rattle.quantities.specs.declared.Scale.{Scale}
use Rattle.quantities.specs.Scale.{Sound, last_count}
use Rattle.quantities.specs.Nearest.{reach, rounded_count, line_nearest}
use Rattle.quantities.specs.Statements.{LegalCount, gap, BeyondBy, Closest, Farther}
use Rattle.quantities.specs.Sides.{side, side-signed, other_side-signed, sides_equal, legal_side, legal_signed, gap_sides, gap-signed, counted}
use Rattle.quantities.specs.Cases.{line_within, line_beyond, less_if_other, count_same, refused-not-count}

module _ (s : Scale) (k : Sound s) (figure : ℤ) where
  abbrev negative : Bool
  negative = is_negative figure

  abbrev last : ℕ
  last = last_count s negative

  -- the reach, in whole numbers
  within_reach : nat_abs figure ≤ reach s negative → 2 * (nat_abs figure * s.denominator) ≤ 2 * (last * s.numerator) + s.numerator
  within_reach h =
      omega
      (arith, (le-div_iff_mul-le {k = 2 * s.denominator} (omega (arith, k.divisor))).0 h, mul_left_comm (nat_abs figure) 2 s.denominator, add-mul (2 * last) 1 s.numerator, mul_assoc 2 last s.numerator, one-mul s.numerator)

  beyond_reach : reach s negative < nat_abs figure → 2 * (last * s.numerator) + s.numerator < 2 * (nat_abs figure * s.denominator)
  beyond_reach h =
      omega
      (arith, (div-lt_iff_lt-mul {k = 2 * s.denominator} (omega (arith, k.divisor))).0 h, mul_left_comm (nat_abs figure) 2 s.denominator, add-mul (2 * last) 1 s.numerator, mul_assoc 2 last s.numerator, one-mul s.numerator)

  -- past the reach no legal count lies within half a step
  none_within : reach s negative < nat_abs figure → (c : ℤ) → LegalCount s c → ¬ (2 * gap s figure c ≤ s.numerator)
  none_within h c l near =
      omega
      (arith, near, beyond_reach h, gap_sides s figure c, mul-le-mul_right s.numerator (legal_side s c l negative))

  rounded : Rounded (figure *ℤ pos s.denominator) s.numerator (with_sign negative (rounded_count s (nat_abs figure)))
  rounded = counted s k figure

  -- where the rounded count is past the last, the figure lies half a step past the last
  half_past : nat_abs figure ≤ reach s negative → last < rounded_count s (nat_abs figure) → 2 * (nat_abs figure * s.denominator) ≡ 2 * (last * s.numerator) + s.numerator
  half_past h past =
      omega
      (arith, within_reach h, rounded.near, gap-signed s figure (rounded_count s (nat_abs figure)), mul-le-mul_right {m = suc last} s.numerator past, suc-mul last s.numerator)

  closest_last : 2 * (nat_abs figure * s.denominator) ≡ 2 * (last * s.numerator) + s.numerator → Closest false s figure (with_sign negative last)
  closest_last h =
      record {
        legal = legal_signed s negative last (le_refl last);
        nearest = λ other l d e p q. omega (arith, h, p, q, gap-signed s figure last, gap_sides s figure other, most other l);
        even = λ other l ne d p q. absurd (ne (same other l (sym q ∙ p)));
      }
    where
      most : (other : ℤ) → LegalCount s other → side negative other * s.numerator ≤ last * s.numerator
      most other l = mul-le-mul_right s.numerator (legal_side s other l negative)

      same : (other : ℤ) → LegalCount s other → gap s figure other ≡ gap s figure (with_sign negative last) → other ≡ with_sign negative last
      same other l e =
          let here : side negative other ≡ last =
          eq_of_mul-eq-mul_right s.numerator (omega (arith, k.longer)) (side negative other) last
          (omega (arith, h, e, gap-signed s figure last, gap_sides s figure other, most other l)) in
          let there : side (not negative) other ≡ 0 =
          eq_of_mul-eq-mul_right s.numerator (omega (arith, k.longer)) (side (not negative) other) 0
          (omega (arith, h, e, gap-signed s figure last, gap_sides s figure other, most other l, zero-mul s.numerator)) in
          sides_equal negative other (with_sign negative last) (omega (arith, here, there, side-signed negative last, other_side-signed negative last))

  closest_rounded : rounded_count s (nat_abs figure) ≤ last → Closest false s figure (with_sign negative (rounded_count s (nat_abs figure)))
  closest_rounded h =
      record {
        legal = legal_signed s negative (rounded_count s (nat_abs figure)) h;
        nearest = λ other l d e p q. omega (arith, p, q, Laws.nearest rounded other);
        even = λ other l ne d p q. Laws.tie rounded other ne (sym q ∙ p);
      }

  abbrev coded-count : ℤ
  coded-count = with_sign negative (min (rounded_count s (nat_abs figure)) last)

  closest : nat_abs figure ≤ reach s negative → Closest false s figure coded-count
  closest h = go (le-or-lt (rounded_count s (nat_abs figure)) last)
    where
      go : (rounded_count s (nat_abs figure) ≤ last) ⊎ (last < rounded_count s (nat_abs figure)) → Closest false s figure coded-count
      go (inl l) = rw (min-eq_left l) (closest_rounded l)
      go (inr l) = rw (min-eq_right (le_of_lt l)) (closest_last (half_past h l))

  half : nat_abs figure ≤ reach s negative → 2 * gap s figure coded-count ≤ s.numerator
  half h = go (le-or-lt (rounded_count s (nat_abs figure)) last)
    where
      go : (rounded_count s (nat_abs figure) ≤ last) ⊎ (last < rounded_count s (nat_abs figure)) → 2 * gap s figure coded-count ≤ s.numerator
      go (inl l) = rw (min-eq_left l) rounded.near
      go (inr l) = rw (min-eq_right (le_of_lt l)) (omega (arith, half_past h l, gap-signed s figure last))

  abbrev answer : Option ℤ
  answer = line_nearest s negative (nat_abs figure)

  -- refused is what lies past the reach of its sign
  pub line_past : (answer ≡ None) ↔ (reach s negative < nat_abs figure)
  line_past = go (le-or-lt (nat_abs figure) (reach s negative))
    where
      go : (nat_abs figure ≤ reach s negative) ⊎ (reach s negative < nat_abs figure) → (answer ≡ None) ↔ (reach s negative < nat_abs figure)
      go (inl h) =
          (λ e. absurd (refused-not-count (sym e ∙ line_within s negative (nat_abs figure) h)), λ k. absurd (omega (arith, h, k)))
      go (inr h) = (λ _. h, λ _. line_beyond s negative (nat_abs figure) h)

  pub line_refused : (answer ≡ None) ↔ BeyondBy false s figure
  line_refused = (λ e. none_within (line_past.0 e), λ none. line_past.1 (past none (le-or-lt (nat_abs figure) (reach s negative))))
    where
      past : BeyondBy false s figure → (nat_abs figure ≤ reach s negative) ⊎ (reach s negative < nat_abs figure) → reach s negative < nat_abs figure
      past none (inl h) = absurd (none coded-count (closest h).legal (half h))
      past none (inr h) = h

  -- the coded count is the closest, and lies within half a step
  pub line_coded : (c : ℤ) → answer ≡ Some c → Closest false s figure c × (2 * gap s figure c ≤ s.numerator)
  line_coded c e = go (le-or-lt (nat_abs figure) (reach s negative))
    where
      go : (nat_abs figure ≤ reach s negative) ⊎ (reach s negative < nat_abs figure) → Closest false s figure c × (2 * gap s figure c ≤ s.numerator)
      go (inl h) =
          rw (← count_same (sym (line_within s negative (nat_abs figure) h) ∙ e)) (closest h, half h)
      go (inr h) = absurd (refused-not-count (sym (line_beyond s negative (nat_abs figure) h) ∙ e))

  -- a legal count that lies less than half a step away is the coded one
  pub line_alone : (c : ℤ) → LegalCount s c → 2 * gap s figure c < s.numerator → answer ≡ Some c
  line_alone c l near = go (le-or-lt (nat_abs figure) (reach s negative))
    where
      go : (nat_abs figure ≤ reach s negative) ⊎ (reach s negative < nat_abs figure) → answer ≡ Some c
      go (inl h) =
          line_within s negative (nat_abs figure) h
          ∙ ap Some
          (Laws.alone rounded coded-count (omega (arith, near, (closest h).nearest c l _ _ refl refl))
          ∙ sym (Laws.alone rounded c near))
      go (inr h) = absurd (none_within h c l (le_of_lt near))

  -- where a figure is half a step from no count, the coded count is alone nearest
  pub line_untied : ((c : ℤ) → 2 * gap s figure c ≢ s.numerator) → (c : ℤ) → answer ≡ Some c → Farther false s figure c
  line_untied never c h other l ne d e p q = go (le-or-lt e d)
    where
      go : (e ≤ d) ⊎ (d < e) → d < e
      go (inl k) =
          absurd
          (ne (count_same (sym (line_alone other l (less_if_other (omega (arith, k, p, q, (line_coded c h).1)) (never other))) ∙ h)))
      go (inr k) = k
