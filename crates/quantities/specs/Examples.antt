-- Worked figures in millionths, beside the starred lines (crate `demands`): an MLS figure below 0, an azimuth just below a whole turn, and the
-- ties of printing, which go to the even millionth.
use Rattle.std.specs.Prelude.{List, [], ◌∷◌, ℤ, pos, neg_ℤ, Option, Some}
use Rattle.quantities.specs.declared.Quantity.{Quantity}
use Rattle.quantities.specs.declared.Quantity.TheVariants.{Azimuth, MlsAzimuth, MlsGlide}
use Rattle.quantities.specs.Nearest.{nearest_count, millionths_of}

-- a quantity, a figure and its answer; or a quantity, a count and its millionths
pub data Example : Type 0 where
  codes : Quantity → ℤ → Option ℤ → Example
  prints : Quantity → ℤ → ℤ → Example

unfoldable pub examples : List Example
examples =
    codes MlsAzimuth (neg_ℤ (pos 109800)) (Some (neg_ℤ (pos 1)))
    ∷ codes Azimuth (pos 359990000) (Some (pos 0))
    ∷ prints Azimuth (pos 8) (pos 351562)
    ∷ prints Azimuth (pos 24) (pos 1054688)
    ∷ prints MlsAzimuth (pos 8) (pos 585938)
    ∷ prints MlsAzimuth (pos 24) (pos 1757812)
    ∷ prints MlsGlide (neg_ℤ (pos 24)) (neg_ℤ (pos 1757812))
    ∷ []

-- an example with its answer computed
unfoldable pub computed : Example → Example
computed (codes q figure r) = codes q figure (nearest_count q figure)
computed (prints q c m) = prints q c (millionths_of q c)
