-- A number of a sign and a size as 64 or 16 bits hold it in two's complement.
use mathlib.Core.Path.{◌≡◌, ap, ◌∙◌}
use mathlib.Core.Bool.{Bool, true, false}
use Prim.Native.Nat.{ℕ, zero, suc, ◌≤◌, ◌<◌, ◌^◌}
use native.Mathlib.Omega.{arith}
use lib.IntN.{ℤ, pos, neg_ℤ, nat_abs, ◌-ℤ◌, +ℤ_idl}
use lib.Signed.{nat_abs-le}
use mir.Syntax.{w16, w64}
use mir.Val.{SFits, to_z, of_z}
use mir.Facts.{to_z-of_z, to_z_pos, sfits_widen}
use Rattle.rounding.specs.Parts.{with_sign}
use Rattle.quantities.specs.Scale.{widest}

pub with_sign-fits : (negative : Bool) (size : ℕ) → size < 2 ^ 63 → SFits w64 (with_sign negative size)
with_sign-fits false size h = record { sfits = h }
with_sign-fits true zero h = record { sfits = h }
with_sign-fits true (suc n) h = record { sfits = omega arith }

pub count_fits : (negative : Bool) (size : ℕ) → size ≤ widest negative → SFits w16 (with_sign negative size)
count_fits false size h = record { sfits = omega arith }
count_fits true zero h = record { sfits = omega arith }
count_fits true (suc n) h = record { sfits = omega arith }

pub widest_small : (negative : Bool) (size : ℕ) → size ≤ widest negative → size < 2 ^ 63
widest_small false size h = omega arith
widest_small true size h = omega arith

-- a size subtracted from 0
pub minus : (size : ℕ) → size < 2 ^ 63 → pos 0 -ℤ to_z w64 size ≡ with_sign true size
minus size h = ap (λ (z : ℤ). pos 0 -ℤ z) (to_z_pos w64 h) ∙ +ℤ_idl (neg_ℤ (pos size))

-- a number that 64 bits or 16 bits hold, written and read back
pub back : (z : ℤ) (negative : Bool) (size : ℕ) → size < 2 ^ 63 → z ≡ with_sign negative size → to_z w64 (of_z w64 z) ≡ with_sign negative size
back z negative size h e = ap (λ (y : ℤ). to_z w64 (of_z w64 y)) e ∙ to_z-of_z (with_sign-fits negative size h)

pub count-back : (z : ℤ) (negative : Bool) (size : ℕ) → size ≤ widest negative → z ≡ with_sign negative size → to_z w16 (of_z w16 z) ≡ with_sign negative size
count-back z negative size h e = ap (λ (y : ℤ). to_z w16 (of_z w16 y)) e ∙ to_z-of_z (count_fits negative size h)

-- a count of 16 bits, widened to 64, and its size
pub widened : (z : ℤ) → SFits w16 z → to_z w64 (of_z w64 (to_z w16 (of_z w16 z))) ≡ z
widened z f = ap (λ (y : ℤ). to_z w64 (of_z w64 y)) (to_z-of_z {w = w16} f) ∙ to_z-of_z {w = w64} (sfits_widen {w = w16} tt f)

pub count-size : (z : ℤ) → SFits w16 z → nat_abs z ≤ 32768
count-size z f = nat_abs-le z f.sfits
