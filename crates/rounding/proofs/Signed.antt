-- The sign and the size of a number that 64 bits hold in two's complement.
use mathlib.Core.Path.{◌≡◌, refl, sym, ap, ◌∙◌}
use mathlib.Core.Bool.{Bool, true, false}
use Prim.Native.Nat.{ℕ, suc, ◌-◌, ◌≤◌, ◌<◌, ◌^◌, zero-le}
use native.Mathlib.Omega.{arith}
use borrow.Author.Tests.{le-ltb}
use lib.Dec.{T}
use lib.IntN.{ℤ, pos, negsuc, nat_abs}
use lib.Signed.{lt_z, non_neg}
use mir.Syntax.{w64}
use mir.Val.{SFits, to_z, of_z}
use mir.Facts.{to_z-of_z, to_z_pos}
use Rattle.rounding.specs.Parts.{is_negative}

pub sign_test : (z : ℤ) → lt_z z (pos 0) ≡ is_negative z
sign_test (pos n) = le-ltb n 0 zero-le
sign_test (negsuc n) = refl

-- what the test of the number's bits says of its sign
pub sign : (z : ℤ) (b : Bool) → SFits w64 z → lt_z (to_z w64 (of_z w64 z)) (pos 0) ≡ b → is_negative z ≡ b
sign z b f h = sym (sign_test z) ∙ ap (λ (y : ℤ). lt_z y (pos 0)) (sym (to_z-of_z f)) ∙ h

clash : false ≡ true → ⊥
clash e = let z : ◌≡◌ {A = ℕ} 0 1 = cc in omega arith

-- the complement of a negative number is its size less 1
pub complement : (z : ℤ) → SFits w64 z → is_negative z ≡ true → (to_z w64 (18446744073709551615 - of_z w64 z) ≡ pos (nat_abs z - 1)) × (0 < nat_abs z) × (nat_abs z ≤ 2 ^ 63)
complement (pos n) f h = absurd (clash h)
complement (negsuc n) f h =
    let l : n < 2 ^ 63 = f.sfits in
    let e : 18446744073709551615 - (2 ^ 64 - suc n) ≡ suc n - 1 = omega arith in
    (ap (to_z w64) e ∙ to_z_pos w64 {n = suc n - 1} (omega arith), omega arith, omega arith)

pub not_negative : (z : ℤ) → is_negative z ≡ false → T (non_neg z)
not_negative (pos n) h = tt
not_negative (negsuc n) h = clash (sym h)
