-- The five measured quantities of document 01: their steps and their legal counts.
use Rattle.std.specs.Prelude.{Bool, true, false, ℕ, ◌≤◌, ◌<◌, ◌^◌}
use Rattle.std.proofs.Common.{arith}
use Rattle.quantities.specs.declared.Quantity.{Quantity}
use Rattle.quantities.specs.declared.Quantity.TheVariants.{Azimuth, Course, Glide, MlsAzimuth, MlsGlide}
use Rattle.quantities.specs.declared.Scale.{Scale}

-- a step of numerator / denominator millionths, with the counts that 13 bits hold
abbrev pub thirteen_bits : ℕ → ℕ → Scale
thirteen_bits numerator denominator = record { numerator = numerator; denominator = denominator; below = 4096; above = 4095 }

-- 75/1024 mV, with the counts that 16 bits hold
abbrev pub mls_scale : Scale
mls_scale = record { numerator = 75000000; denominator = 1024; below = 32768; above = 32767 }

-- 45/1024 degree, 1/10240 and 1/5120 of modulation depth difference, and the MLS step for both its deviations
abbrev pub scale_of : Quantity → Scale
scale_of Azimuth = thirteen_bits 45000000 1024
scale_of Course = thirteen_bits 1000000 10240
scale_of Glide = thirteen_bits 1000000 5120
scale_of MlsAzimuth = mls_scale
scale_of MlsGlide = mls_scale

-- the azimuth is measured round the circle, the deviations on a line
abbrev pub on_circle : Quantity → Bool
on_circle Azimuth = true
on_circle Course = false
on_circle Glide = false
on_circle MlsAzimuth = false
on_circle MlsGlide = false

-- the greatest legal count of a sign
abbrev pub last_count : Scale → Bool → ℕ
last_count s false = s.above
last_count s true = s.below

-- the greatest count of a sign that 16 bits hold
abbrev pub widest : Bool → ℕ
widest false = 32767
widest true = 32768

-- what the proofs ask of a scale, and each quantity's has: a step longer than a millionth, and numbers whose products 64 bits hold
pub record Sound (s : Scale) : Type 0 where
  pub divisor : 0 < s.denominator
  pub longer : s.denominator < s.numerator
  pub numerator_small : s.numerator ≤ 2 ^ 27
  pub denominator_small : s.denominator ≤ 2 ^ 14
  pub below_small : s.below ≤ widest true
  pub above_small : s.above ≤ widest false

-- each quantity has such a scale
pub sound : (q : Quantity) → Sound (scale_of q)
sound Azimuth = omega arith
sound Course = omega arith
sound Glide = omega arith
sound MlsAzimuth = omega arith
sound MlsGlide = omega arith
