-- The theorems on the five measured quantities, for every figure and every count. Each figure is coded or refused as document 01 asks,
-- and every legal count's printed value is coded to that count.
use Rattle.std.specs.Prelude.{◌≡◌, refl, ◌≢◌, ◌↔◌, not, ℕ, ◌+◌, ◌*◌, ◌%◌, ◌≤◌, ℤ, pos, nat_abs, ◌*ℤ◌, Some, None}
use Rattle.std.proofs.Common.{sym, ◌∙◌, arith}
use Rattle.rounding.specs.Parts.{is_negative, distance, nat_abs_sub}
use Rattle.rounding.specs.Laws as Laws
use Rattle.quantities.specs.declared.Quantity.{Quantity}
use Rattle.quantities.specs.declared.Quantity.TheVariants.{Azimuth, Course, Glide, MlsAzimuth, MlsGlide}
use Rattle.quantities.specs.Scale.{scale_of, on_circle, sound}
use Rattle.quantities.specs.Nearest.{nearest_count, millionths_of}
use Rattle.quantities.specs.Statements.{LegalCount, gap, Beyond, Coded, Farther}
use Rattle.quantities.specs.Sides.{side, gap_sides}
use Rattle.quantities.specs.Cases.{nearest_circle, nearest_line}
use Rattle.quantities.specs.Line.{line_refused, line_coded, line_alone, line_untied}
use Rattle.quantities.specs.Circle.{Circular, circle_refused}
use Rattle.quantities.proofs.Circle.{circle_coded, circle_alone, circle_untied}
use Rattle.quantities.specs.Theorems.{by_shape, rounded}

-- the azimuth's counts make 360 degrees
pub circular : Circular (scale_of Azimuth)
circular = omega arith

-- a figure is refused exactly when it is out of reach
pub refused : (q : Quantity) (figure : ℤ) → (nearest_count q figure ≡ None) ↔ Beyond q figure
refused q figure =
    by_shape (λ (q : Quantity). (nearest_count q figure ≡ None) ↔ Beyond q figure)
    (rw (nearest_circle Azimuth figure refl) (circle_refused (scale_of Azimuth) (sound Azimuth) circular figure))
    (λ q e. rw (nearest_line q figure e, e) (line_refused (scale_of q) (sound q) figure))
    q

-- each to the nearest legal count, a tie to the even one
pub coded : (q : Quantity) (figure c : ℤ) → nearest_count q figure ≡ Some c → Coded q figure c
coded q figure c =
    by_shape (λ (q : Quantity). nearest_count q figure ≡ Some c → Coded q figure c)
    (λ h. circle_coded (scale_of Azimuth) (sound Azimuth) circular figure c (sym (nearest_circle Azimuth figure refl) ∙ h))
    (λ q e h. rw e (line_coded (scale_of q) (sound q) figure c (sym (nearest_line q figure e) ∙ h)).0)
    q

-- No whole number of millionths lies half-way between two counts: the steps are 703125/16, 3125/32, 3125/16 and 1171875/16 millionths, so half a step
-- is an odd number over an even one, and no odd multiple of it is whole.
pub never_halfway : (q : Quantity) (figure c : ℤ) → 2 * gap (scale_of q) figure c ≢ (scale_of q).numerator
never_halfway q figure c = go q
  where
    size : ℕ
    size = nat_abs figure

    here : ℕ
    here = side (is_negative figure) c

    there : ℕ
    there = side (not (is_negative figure)) c

    twice : (a b n : ℕ) → n % 2 ≡ 1 → 2 * distance a b ≢ n
    twice a b n h e = omega arith

    go : (q : Quantity) → 2 * gap (scale_of q) figure c ≢ (scale_of q).numerator
    go Azimuth e = twice (size * 16 + there * 703125) (here * 703125) 703125 refl (omega (arith, e, gap_sides (scale_of Azimuth) figure c))
    go Course e = twice (size * 32 + there * 3125) (here * 3125) 3125 refl (omega (arith, e, gap_sides (scale_of Course) figure c))
    go Glide e = twice (size * 16 + there * 3125) (here * 3125) 3125 refl (omega (arith, e, gap_sides (scale_of Glide) figure c))
    go MlsAzimuth e = twice (size * 16 + there * 1171875) (here * 1171875) 1171875 refl (omega (arith, e, gap_sides (scale_of MlsAzimuth) figure c))
    go MlsGlide e = twice (size * 16 + there * 1171875) (here * 1171875) 1171875 refl (omega (arith, e, gap_sides (scale_of MlsGlide) figure c))

-- so no figure is a tie: every legal count but the coded one lies farther
pub untied : (q : Quantity) (figure c : ℤ) → nearest_count q figure ≡ Some c → Farther (on_circle q) (scale_of q) figure c
untied q figure c =
    by_shape (λ (q : Quantity). nearest_count q figure ≡ Some c → Farther (on_circle q) (scale_of q) figure c)
    (λ h. circle_untied (scale_of Azimuth) (sound Azimuth) circular figure (never_halfway Azimuth figure) c (sym (nearest_circle Azimuth figure refl) ∙ h))
    (λ q e h. rw e (line_untied (scale_of q) (sound q) figure (never_halfway q figure) c (sym (nearest_line q figure e) ∙ h)))
    q

-- and the printed value of a legal count is coded to that count
pub codes_back : (q : Quantity) (c : ℤ) → LegalCount (scale_of q) c → nearest_count q (millionths_of q c) ≡ Some c
codes_back =
    by_shape (λ (q : Quantity). (c : ℤ) → LegalCount (scale_of q) c → nearest_count q (millionths_of q c) ≡ Some c)
    (λ c l.
    nearest_circle Azimuth (millionths_of Azimuth c) refl
    ∙ circle_alone (scale_of Azimuth) (sound Azimuth) circular (millionths_of Azimuth c) c l (omega (arith, fine Azimuth c, (sound Azimuth).longer)) (fine Azimuth c))
    (λ q e c l.
    nearest_line q (millionths_of q c) e
    ∙ line_alone (scale_of q) (sound q) (millionths_of q c) c l (omega (arith, fine q c, (sound q).longer)))
  where
    fine : (q : Quantity) (c : ℤ) → 2 * gap (scale_of q) (millionths_of q c) c ≤ (scale_of q).denominator
    fine q c =
        omega (
          arith,
          (rounded q c).near,
          nat_abs_sub (c *ℤ pos (scale_of q).numerator) (millionths_of q c *ℤ pos (scale_of q).denominator),
          nat_abs_sub (millionths_of q c *ℤ pos (scale_of q).denominator) (c *ℤ pos (scale_of q).numerator),
        )
