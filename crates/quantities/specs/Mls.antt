-- How far the MLS figures reach, in millionths (request 3 of document 02).
use Rattle.std.specs.Prelude.{◌≡◌, ◌⊎◌, ◌<◌, ℤ, pos, negsuc, neg_ℤ, nat_abs, ◌<ℤ◌}
use Rattle.std.proofs.Common.{inl, inr, arith, ltb→lt}
use Rattle.rounding.specs.Parts.{is_negative}
use Rattle.quantities.specs.declared.Quantity.{Quantity}
use Rattle.quantities.specs.declared.Quantity.TheVariants.{MlsAzimuth, MlsGlide}
use Rattle.quantities.specs.Scale.{mls_scale}
use Rattle.quantities.specs.Nearest.{reach}

-- the two MLS deviations
abbrev pub IsMls : Quantity → Type 0
IsMls q = (q ≡ MlsAzimuth) ⊎ (q ≡ MlsGlide)

-- below -2400036621 or above 2399963378 millionths
abbrev pub BeyondMls : ℤ → Type 0
BeyondMls figure = (figure <ℤ neg_ℤ (pos 2400036621)) ⊎ (pos 2399963378 <ℤ figure)

pub past : (figure : ℤ) → BeyondMls figure → reach mls_scale (is_negative figure) < nat_abs figure
past (pos n) (inl b) = absurd b.lt
past (pos n) (inr b) = omega (arith, ltb→lt 2399963378 n b.lt)
past (negsuc n) (inl b) = omega (arith, ltb→lt 2400036620 n b.lt)
past (negsuc n) (inr b) = absurd b.lt
