-- The azimuth: a value moved by whole turns is the value of a count moved by whole turns of counts, so the nearest of all whole
-- numbers, less whole turns, is the nearest count round the circle.
use Rattle.std.specs.Prelude.{◌≡◌, ◌≢◌, ◌⊎◌, Bool, true, false, ℕ, ◌+◌, ◌-◌, ◌*◌, ◌/◌, ◌%◌, ◌≤◌, ◌<◌, ℤ, pos, nat_abs, ◌+ℤ◌, Some}
use Rattle.std.proofs.Common.{sym, ap, ap₂, subst, ◌∙◌, inl, inr, add-mul, one-mul, zero-mul, mul-le-mul_right, mod-lt, div-add-mod', arith}
use Rattle.std.proofs.Math.IntN.{+ℤ_idr}
use Rattle.rounding.specs.Parts.{le-or-lt, with_sign, positive_part, negative_part, parts-equal}
use Rattle.rounding.specs.Rounding.{Even}
use Rattle.rounding.specs.Laws as Laws
use Rattle.rounding.specs.Laws.{Separate, same, below, above}
use Rattle.rounding.proofs.Laws as RoundedLaws
use Rattle.quantities.specs.declared.Scale.{Scale}
use Rattle.quantities.specs.Scale.{Sound, last_count}
use Rattle.quantities.specs.Nearest.{turn_counts, wrap, farthest}
use Rattle.quantities.specs.Statements.{LegalCount, gap, Shortest, Closest, Farther}
use Rattle.quantities.specs.Sides.{legal_side, gap_sides}
use Rattle.quantities.specs.Cases.{circle_within, wrap_same, wrap_other, less_if_other}
use Rattle.quantities.specs.Circle.{Circular, with_sign-mul, with_sign-add, with_sign_cancel, moved, moved-parts, gap-moved, even_moved, wrapped_legal, negative, count, coded-count, rounded, answer, answered}

module _ (s : Scale) (circular : Circular s) where
  -- two legal counts that differ by whole turns are one
  legal_once : (c o t u : ℤ) → LegalCount s c → LegalCount s o → (moved s circular) c t ≡ (moved s circular) o u → c ≡ o
  legal_once c o t u lc lo e = go (Laws.separate t u (turn_counts s))
    where
      level : positive_part c + positive_part t * turn_counts s + (negative_part o + negative_part u * turn_counts s) ≡ positive_part o + positive_part u * turn_counts s + (negative_part c + negative_part t * turn_counts s)
      level = omega (arith, (moved-parts s circular) c t, (moved-parts s circular) o u, ap positive_part e, ap negative_part e)

      go : Separate t u (turn_counts s) → c ≡ o
      go (same f) =
          parts-equal c o
          (omega (arith, level, ap (λ (x : ℤ). positive_part x * turn_counts s) f, ap (λ (x : ℤ). negative_part x * turn_counts s) f))
      go (below l h) = absurd (omega (arith, level, h, legal_side s c lc false, legal_side s o lo true))
      go (above l h) = absurd (omega (arith, level, h, legal_side s o lo false, legal_side s c lc true))

  wrapped_turns : (b : Bool) (count : ℕ) → (t : ℤ) × ((moved s circular) (wrap s b count) t ≡ with_sign b count)
  wrapped_turns b count = go (le-or-lt (count % turn_counts s) (last_count s b))
    where
      whole : count / turn_counts s * turn_counts s + count % turn_counts s ≡ count
      whole = div-add-mod' count (turn_counts s)

      less : count % turn_counts s < turn_counts s
      less = mod-lt count (omega arith)

      go : (count % turn_counts s ≤ last_count s b) ⊎ (last_count s b < count % turn_counts s) → (t : ℤ) × ((moved s circular) (wrap s b count) t ≡ with_sign b count)
      go (inl h) = (
        with_sign b (count / turn_counts s),
        ap₂ (λ (x y : ℤ). x +ℤ y) (wrap_same s b count h) (with_sign-mul b (count / turn_counts s) (turn_counts s))
            ∙ with_sign-add b (count % turn_counts s) (count / turn_counts s * turn_counts s)
            ∙ ap (with_sign b) (omega (arith, whole)),
      )
      go (inr h) = (
        with_sign b (count / turn_counts s + 1),
        ap₂ (λ (x y : ℤ). x +ℤ y) (wrap_other s b count h) (with_sign-mul b (count / turn_counts s + 1) (turn_counts s))
            ∙ with_sign_cancel b (turn_counts s - count % turn_counts s) ((count / turn_counts s + 1) * turn_counts s)
            (omega (arith, add-mul (count / turn_counts s) 1 (turn_counts s), one-mul (turn_counts s)))
            ∙ ap (with_sign b)
            (omega (arith, whole, less, add-mul (count / turn_counts s) 1 (turn_counts s), one-mul (turn_counts s))),
      )

module _ (s : Scale) (k : Sound s) (circular : Circular s) (figure : ℤ) where
  -- the coded count is the rounded one, moved by whole turns
  abbrev back : ℤ
  back = (wrapped_turns s circular (negative s k circular figure) (count s k circular figure)).0

  again : moved s circular (coded-count s k circular figure) back ≡ with_sign (negative s k circular figure) (count s k circular figure)
  again = (wrapped_turns s circular (negative s k circular figure) (count s k circular figure)).1

  at_most : (d : ℕ) → Shortest s figure (coded-count s k circular figure) d → d ≤ gap s figure (with_sign (negative s k circular figure) (count s k circular figure))
  at_most d p = omega (arith, p.least back, gap-moved s circular figure (coded-count s k circular figure) back, ap (gap s figure) again)

  closest : Closest true s figure (coded-count s k circular figure)
  closest =
      record {
        legal = wrapped_legal s circular (negative s k circular figure) (count s k circular figure);
        nearest = λ other l d e p q. omega (arith, at_most d p, q.reached, gap-moved s circular figure other q.turns, Laws.nearest (rounded s k circular figure) (moved s circular other q.turns));
        even = λ other l ne d p q.
            even_moved s circular (coded-count s k circular figure) back
            (subst Even (sym again)
            (Laws.tie (rounded s k circular figure) (moved s circular other q.turns)
            (λ e. ne (legal_once s circular other (coded-count s k circular figure) q.turns back l (wrapped_legal s circular (negative s k circular figure) (count s k circular figure)) (e ∙ sym again)))
            (omega (arith, at_most d p, q.reached, gap-moved s circular figure other q.turns, Laws.nearest (rounded s k circular figure) (moved s circular other q.turns)))));
      }

  pub circle_coded : (c : ℤ) → (answer s k circular figure) ≡ Some c → Closest true s figure c
  circle_coded = (answered s k circular figure) (Closest true s figure) closest

  -- where a figure is half a step from no count, the coded count is alone nearest
  alone : ((c : ℤ) → 2 * gap s figure c ≢ s.numerator) → Farther true s figure (coded-count s k circular figure)
  alone never other l ne d e p q = go (le-or-lt e d)
    where
      other_moved : ℤ
      other_moved = moved s circular other q.turns

      go : (e ≤ d) ⊎ (d < e) → d < e
      go (inl h) =
          absurd
          (ne
          (legal_once s circular other (coded-count s k circular figure) q.turns back l (wrapped_legal s circular (negative s k circular figure) (count s k circular figure))
          (Laws.alone (rounded s k circular figure) other_moved
          (less_if_other (omega (arith, h, at_most d p, q.reached, gap-moved s circular figure other q.turns, (rounded s k circular figure).near)) (never other_moved))
          ∙ sym again)))
      go (inr h) = h

  pub circle_untied : ((c : ℤ) → 2 * gap s figure c ≢ s.numerator) → (c : ℤ) → (answer s k circular figure) ≡ Some c → Farther true s figure c
  circle_untied never = (answered s k circular figure) (Farther true s figure) (alone never)

  -- a legal count that lies less than half a step, and at most half a millionth, away is the coded one
  pub circle_alone : (c : ℤ) → LegalCount s c → 2 * gap s figure c < s.numerator → 2 * gap s figure c ≤ s.denominator → (answer s k circular figure) ≡ Some c
  circle_alone c l near fine =
      circle_within s (negative s k circular figure) (nat_abs figure) (half_turn (negative s k circular figure) size)
      ∙ ap Some
      (legal_once s circular (coded-count s k circular figure) c (wrapped_turns s circular (negative s k circular figure) (count s k circular figure)).0 (pos 0) (wrapped_legal s circular (negative s k circular figure) (count s k circular figure)) l
      ((wrapped_turns s circular (negative s k circular figure) (count s k circular figure)).1 ∙ sym (Laws.alone (rounded s k circular figure) c near) ∙ sym (unmoved c)))
    where
      unmoved : (c : ℤ) → c +ℤ pos (0 * turn_counts s) ≡ c
      unmoved c = ap (λ (x : ℕ). c +ℤ pos x) (zero-mul (turn_counts s)) ∙ +ℤ_idr c

      half_turn : (b : Bool) → nat_abs figure ≤ 180000000 → nat_abs figure ≤ farthest b
      half_turn true h = h
      half_turn false h = omega (arith, h)

      last : (b : Bool) → last_count s b * s.numerator ≤ 180000000 * s.denominator
      last true = circular.below_half
      last false = circular.above_half

      size : nat_abs figure ≤ 180000000
      size = go (le-or-lt (nat_abs figure) 180000000)
        where
          go : (nat_abs figure ≤ 180000000) ⊎ (180000000 < nat_abs figure) → nat_abs figure ≤ 180000000
          go (inl h) = h
          go (inr h) =
              absurd
              (omega
              (arith, fine, k.divisor, last (negative s k circular figure), mul-le-mul_right s.numerator (legal_side s c l (negative s k circular figure)), mul-le-mul_right {m = 180000001} s.denominator h, gap_sides s figure c))
