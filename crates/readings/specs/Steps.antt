-- The readings that are exact have the steps of the figures: the double is the count times the step by which figures are coded and printed
-- (`scale_of`, in millionths of the unit).
-- Assumes nothing.
use Rattle.std.proofs.Common.{inl, inr, lit<}
use Rattle.std.specs.Prelude.{◌*◌, ℤ, pos, ◌*ℤ◌, Float}
use Rattle.doubles.specs.Exact.{IsExactly}
use Rattle.doubles.proofs.Exact.{exact_expanded}
use Rattle.quantities.specs.Mls.{IsMls}
use Rattle.quantities.specs.Scale.{scale_of}
use Rattle.quantities.specs.declared.Quantity.{Quantity}

-- the double is exactly `count` steps of a quantity
abbrev pub IsSteps : Quantity → Float → ℤ → Type 0
IsSteps q x count = IsExactly x (count *ℤ pos (scale_of q).numerator) ((scale_of q).denominator * 1000000)

pub degrees_steps : (x : Float) (count : ℤ) → IsExactly x (count *ℤ pos 45) 1024 → IsSteps Quantity.Azimuth x count
degrees_steps x count = exact_expanded x count 45 1024 1000000 (lit< tt) (lit< tt)

pub millivolts_steps : (q : Quantity) → IsMls q → (x : Float) (count : ℤ) → IsExactly x (count *ℤ pos 75) 1024 → IsSteps q x count
millivolts_steps q (inl e) x count h = rw e (exact_expanded x count 75 1024 1000000 (lit< tt) (lit< tt) h)
millivolts_steps q (inr e) x count h = rw e (exact_expanded x count 75 1024 1000000 (lit< tt) (lit< tt) h)
