-- A signed number of the machine by its sign and its size, for every width: below 0 it is -k-1 for its `mag` k, which `!` makes of it.
-- Assumes nothing.
use Rattle.std.specs.Prelude.{◌≡◌, refl, true, false, ◌&&◌, ℕ, suc, ◌-◌, ◌^◌, T, ltb, leb, ℤ, pos, negsuc, nat_abs}
use Rattle.std.proofs.Common.{sym, ap, ap₂, ◌∙◌, subst, true≢false, arith, le-ltb, pow_pos, to_z-of_z}
use Rattle.std.proofs.Math.Bool.{and-true}
use Rattle.std.proofs.Math.Dec.{leb-suc-suc}
use Rattle.std.specs.Int.Signed.{mag, lt_z, le_z, non_neg}
use Rattle.std.specs.Int.{Width, w8, w16, w32, w64, w128}
use mir.Val.{bits, hbits, to_z, of_z, Fits, SFits}
use Rattle.std.proofs.Math.Facts.{to_z_pos, Fits-nat_abs}

half : (w : Width) → T (ltb (hbits w) (bits w))
half w8 = tt
half w16 = tt
half w32 = tt
half w64 = tt
half w128 = tt

-- the machine's test of a sign
below-zero : (w : Width) (z : ℤ) → SFits w z → lt_z (to_z w (of_z w z)) (to_z w 0) ≡ lt_z z (pos 0)
below-zero w z f = ap₂ lt_z (to_z-of_z f) (to_z_pos w (pow_pos (hbits w)))

pub negative : (w : Width) (z : ℤ) → SFits w z → lt_z (to_z w (of_z w z)) (to_z w 0) ≡ true → (to_z w (2 ^ bits w - 1 - of_z w z) ≡ pos (mag z)) × (z ≡ negsuc (mag z))
negative w (pos k) f t = absurd (true≢false (sym t ∙ below-zero w (pos k) f ∙ le-ltb k 0 (omega arith)))
negative w (negsuc k) f t =
    let e : 2 ^ bits w - 1 - (2 ^ bits w - suc k) ≡ k = omega (arith, (Fits-nat_abs {w = w} {w' = w} {z = negsuc k} (half w) f).fits) in
    (ap (to_z w) e ∙ to_z_pos w f.sfits, refl)

pub positive : (w : Width) (z : ℤ) → SFits w z → lt_z (to_z w (of_z w z)) (to_z w 0) ≡ false → (to_z w (of_z w z) ≡ pos (mag z)) × (z ≡ pos (mag z))
positive w (pos k) f t = (to_z-of_z f, refl)
positive w (negsuc k) f t = absurd (true≢false (sym (below-zero w (negsuc k) f) ∙ t))

-- either goes into as many bits without a sign
pub castable : (w v : Width) (x z : ℤ) → T (ltb (hbits w) (bits v)) → SFits w z → x ≡ pos (mag z) → T (non_neg x) × Fits v (nat_abs x)
castable w v x z t f e =
    subst (λ (y : ℤ). T (non_neg y) × Fits v (nat_abs y)) (sym e) (tt, Fits-nat_abs {w = w} {w' = v} {z = pos (mag z)} t (record { sfits = f.sfits }))

-- a number from -n-1 to n, tested as the machine does and by its `mag`
within : (n : ℕ) (z : ℤ) → (le_z (negsuc n) z && le_z z (pos n)) ≡ ltb (mag z) (suc n)
within n (pos k) = sym (leb-suc-suc k n)
within n (negsuc k) = and-true (leb k n) ∙ sym (leb-suc-suc k n)

pub in_range : {w : Width} (n : ℕ) (z : ℤ) → SFits w z → (le_z (negsuc n) (to_z w (of_z w z)) && le_z (to_z w (of_z w z)) (pos n)) ≡ ltb (mag z) (suc n)
in_range n z f = ap (λ (x : ℤ). le_z (negsuc n) x && le_z x (pos n)) (to_z-of_z f) ∙ within n z
