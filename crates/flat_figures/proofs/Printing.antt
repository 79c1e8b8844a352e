-- The figure in millionths that a count under a label is printed as, or its refusal's number.
-- Assumes nothing.
use Rattle.std.specs.Prelude.{◌≡◌, true, ◌<◌, ℤ}
use Rattle.std.proofs.Common.{arith, ltb-true}
use Rattle.std.specs.Int.Signed.{mag}
use Rattle.quantities.specs.Scale.{scale_of}
use Rattle.quantities.specs.Statements.{LegalCount}
use Rattle.quantities.specs.declared.Quantity.{Quantity}
use Rattle.flat_figures.specs.Printing.{holds, within}

pub held_legal : (q : Quantity) (c : ℤ) → holds q c ≡ true → LegalCount (scale_of q) c
held_legal Quantity.Azimuth c e = within 4095 c e
held_legal Quantity.Course c e = within 4095 c e
held_legal Quantity.Glide c e = within 4095 c e
held_legal Quantity.MlsAzimuth c e = within 32767 c e
held_legal Quantity.MlsGlide c e = within 32767 c e

-- and 16 bits hold them all
pub held_short : (q : Quantity) (c : ℤ) → holds q c ≡ true → mag c < 32768
held_short Quantity.Azimuth c e = omega (arith, ltb-true (mag c) 4096 e)
held_short Quantity.Course c e = omega (arith, ltb-true (mag c) 4096 e)
held_short Quantity.Glide c e = omega (arith, ltb-true (mag c) 4096 e)
held_short Quantity.MlsAzimuth c e = ltb-true (mag c) 32768 e
held_short Quantity.MlsGlide c e = ltb-true (mag c) 32768 e
