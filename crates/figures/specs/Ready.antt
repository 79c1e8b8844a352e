-- Bits 11 to 31 of a ready word: the status 3 above the count of 13 or of 16 bits, and zero below it.
-- Assumes nothing.
use Rattle.std.specs.Prelude.{◌≡◌, ℕ, ◌+◌, ◌*◌, ◌^◌, ◌<◌, ℤ}
use Rattle.std.proofs.Common.{ap, ◌∙◌, arith}
use Rattle.bits.specs.Complement.{complement, complement-lt}
use Rattle.labels.specs.Label.{label_of}
use Rattle.encode.specs.Encode.{upper_bits, lower_as}
use Rattle.encode.specs.Laws.{lower_is}
use Rattle.quantities.specs.declared.Quantity.{Quantity}
use Rattle.quantities.specs.declared.Quantity.TheVariants.{Azimuth, Course, Glide, MlsAzimuth, MlsGlide}
use Rattle.figures.specs.Coding.{ready_body, ready_record}

abbrev pub narrow_bits : ℤ → ℕ
narrow_bits c = (3 * 2 ^ 13 + complement 13 c) * 2 ^ 6

abbrev pub wide_bits : ℤ → ℕ
wide_bits c = (3 * 2 ^ 16 + complement 16 c) * 2 ^ 3

abbrev pub ready_bits : Quantity → ℤ → ℕ
ready_bits Azimuth c = narrow_bits c
ready_bits Course c = narrow_bits c
ready_bits Glide c = narrow_bits c
ready_bits MlsAzimuth c = wide_bits c
ready_bits MlsGlide c = wide_bits c

-- they are what the ready body writes
ready_upper : (q : Quantity) (c : ℤ) → upper_bits (ready_body q c) ≡ ready_bits q c
ready_upper Azimuth c = omega arith
ready_upper Course c = omega arith
ready_upper Glide c = omega arith
ready_upper MlsAzimuth c = omega arith
ready_upper MlsGlide c = omega arith

-- above the label and the source
pub ready_lower : (q : Quantity) (label source : ℕ) (c : ℤ) → lower_as label (ready_record q source c) ≡ (ready_bits q c * 4 + source) * 256 + label_of label
ready_lower q label source c = lower_is label (ready_record q source c) ∙ ap (λ (u : ℕ). (u * 4 + source) * 256 + label_of label) (ready_upper q c)

-- and 21 bits
pub ready_small : (q : Quantity) (c : ℤ) → ready_bits q c < 2 ^ 21
ready_small Azimuth c = omega (arith, complement-lt 13 c)
ready_small Course c = omega (arith, complement-lt 13 c)
ready_small Glide c = omega (arith, complement-lt 13 c)
ready_small MlsAzimuth c = omega (arith, complement-lt 16 c)
ready_small MlsGlide c = omega (arith, complement-lt 16 c)
