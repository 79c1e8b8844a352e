-- The theorems on the five measured quantities, for every figure and every count. Each figure is coded or refused as document 01 asks,
-- and every legal count's printed value is coded to that count.
use Rattle.std.specs.Prelude.{◌≡◌, refl, ◌⊎◌, Bool, true, false, ℕ, suc, ◌*◌, ◌≤◌, ℤ, pos, negsuc, ◌*ℤ◌, Option, Some, None}
use Rattle.std.proofs.Common.{sym, ◌∙◌, inl, inr, arith}
use Rattle.rounding.specs.Rounding.{Rounded}
use Rattle.rounding.specs.Laws as Laws
use Rattle.quantities.specs.declared.Quantity.{Quantity}
use Rattle.quantities.specs.declared.Quantity.TheVariants.{Azimuth, Course, Glide, MlsAzimuth, MlsGlide}
use Rattle.quantities.specs.declared.Scale.{Scale}
use Rattle.quantities.specs.Scale.{scale_of, on_circle, sound}
use Rattle.quantities.specs.Nearest.{nearest_count, millionths_of}
use Rattle.quantities.specs.Statements.{gap, AwayBy, Away, Printed}
use Rattle.quantities.specs.Cases.{nearest_line}
use Rattle.quantities.specs.Line.{line_coded}
use Rattle.quantities.specs.Circle.{shortest}

-- what holds of the azimuth, and of every quantity on a line, holds of all
pub by_shape : (P : Quantity → Type 0) → P Azimuth → ((q : Quantity) → on_circle q ≡ false → P q) → (q : Quantity) → P q
by_shape P azimuth line Azimuth = azimuth
by_shape P azimuth line Course = line Course refl
by_shape P azimuth line Glide = line Glide refl
by_shape P azimuth line MlsAzimuth = line MlsAzimuth refl
by_shape P azimuth line MlsGlide = line MlsGlide refl

-- all the rest are coded
pub answered : (q : Quantity) (figure : ℤ) → (nearest_count q figure ≡ None) ⊎ ((c : ℤ) × (nearest_count q figure ≡ Some c))
answered q figure = go (nearest_count q figure)
  where
    go : (r : Option ℤ) → (r ≡ None) ⊎ ((c : ℤ) × (r ≡ Some c))
    go (Some c) = inr (c, refl)
    go None = inl refl

-- and on a line to one within half a step
pub within_half : (q : Quantity) → on_circle q ≡ false → (figure c : ℤ) → nearest_count q figure ≡ Some c → 2 * gap (scale_of q) figure c ≤ (scale_of q).numerator
within_half q e figure c h = (line_coded (scale_of q) (sound q) figure c (sym (nearest_line q figure e) ∙ h)).1

-- every count has one distance from every figure
pub away : (q : Quantity) (figure c : ℤ) → (d : ℕ) × Away q figure c d
away q figure c =
    by_shape (λ (q : Quantity). (d : ℕ) × Away q figure c d)
    (shortest (scale_of Azimuth) (sound Azimuth) figure c)
    (λ q e. rw e (gap (scale_of q) figure c, refl))
    q

pub away_once : (q : Quantity) (figure c : ℤ) (d e : ℕ) → Away q figure c d → Away q figure c e → d ≡ e
away_once q figure c d e = once (on_circle q) (scale_of q)
  where
    once : (b : Bool) (s : Scale) → AwayBy b s figure c d → AwayBy b s figure c e → d ≡ e
    once false s p r = p ∙ sym r
    once true s p r = omega (arith, p.reached, r.reached, p.least r.turns, r.least p.turns)

-- a count's value is printed as the nearest millionth, a tie to the even one
pub rounded : (q : Quantity) (c : ℤ) → Rounded (c *ℤ pos (scale_of q).numerator) (scale_of q).denominator (millionths_of q c)
unfolding millionths_of
rounded q (pos n) = Laws.rounded-signed false (n * (scale_of q).numerator) (scale_of q).denominator (sound q).divisor
rounded q (negsuc n) = Laws.rounded-signed true (suc n * (scale_of q).numerator) (scale_of q).denominator (sound q).divisor

pub printed : (q : Quantity) (c : ℤ) → Printed q c (millionths_of q c)
printed q c = record { nearest = Laws.nearest (rounded q c); even = Laws.tie (rounded q c) }
