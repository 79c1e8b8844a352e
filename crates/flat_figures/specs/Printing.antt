-- The figure in millionths that a count under a label is printed as, or its refusal's number.
-- Assumes nothing.
use Rattle.std.specs.Prelude.{◌≡◌, Bool, true, false, cond, ℕ, suc, ltb, ℤ, pos, negsuc, ◌≤ℤ◌, Option, Some, None}
use Rattle.std.proofs.Common.{arith, ltb-true, le→leb}
use Rattle.std.specs.Int.Signed.{mag, le_z_yes}
use Rattle.refusals.specs.Numbers.{number_of}
use Rattle.refusals.specs.declared.Refusal.{Refusal}
use Rattle.labels.proofs.Assignment.{document01}
use Rattle.encode.specs.Encode.{narrow, wide}
use Rattle.quantities.specs.Nearest.{millionths_of}
use Rattle.quantities.specs.declared.Quantity.{Quantity}
use Rattle.figures.specs.Coding.{quantity_at}
use Rattle.flat_figures.specs.declared.FlatMillionths.{FlatMillionths}

-- the bits of a quantity hold a count: 13, or 16 for the MLS deviations
abbrev pub holds : Quantity → ℤ → Bool
holds Quantity.Azimuth c = narrow c
holds Quantity.Course c = narrow c
holds Quantity.Glide c = narrow c
holds Quantity.MlsAzimuth c = wide c
holds Quantity.MlsGlide c = wide c

abbrev pub refused : ℕ → FlatMillionths
refused number = record { refusal = number; millionths = pos 0 }

-- 6 where they do not hold it
abbrev pub printed : Quantity → ℤ → FlatMillionths
printed q c = cond (holds q c) (record { refusal = 0; millionths = millionths_of q c }) (refused (number_of Refusal.Value))

-- 2 where nothing is measured
abbrev pub printed_measured : Option Quantity → ℤ → FlatMillionths
printed_measured (Some q) c = printed q c
printed_measured None c = refused (number_of Refusal.Label)

-- a count, under a label of document 01
abbrev pub printed_of : ℕ → ℤ → FlatMillionths
printed_of label c = printed_measured (quantity_at document01 label) c

-- ---- one step of the order at a time

pub not-held : (q : Quantity) (c : ℤ) → holds q c ≡ false → printed q c ≡ refused (number_of Refusal.Value)
not-held q c h = rw h

pub held : (q : Quantity) (c : ℤ) → holds q c ≡ true → printed q c ≡ record { refusal = 0; millionths = millionths_of q c }
held q c h = rw h

-- ---- the counts that are printed are demand 3's legal ones

pub within : (n : ℕ) (c : ℤ) → ltb (mag c) (suc n) ≡ true → (negsuc n ≤ℤ c) × (c ≤ℤ pos n)
within n (pos k) e = (le_z_yes tt, le_z_yes (le→leb k n (omega (arith, ltb-true k (suc n) e))))
within n (negsuc k) e = (le_z_yes (le→leb k n (omega (arith, ltb-true k (suc n) e))), le_z_yes tt)
