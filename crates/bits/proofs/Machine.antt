-- Two's complement of n bits against the machine's own of 16: below half the number is itself, and above it what `!` gives.
-- Assumes nothing.
use mathlib.Core.Path.{◌≡◌, sym, ap, ap₂, ◌∙◌, subst}
use mathlib.Core.Bool.{Bool, cond}
use Prim.Native.Nat.{ℕ, zero, suc, ◌-◌, ◌*◌, ◌/◌, ◌%◌, ◌^◌, ◌<◌, ◌≤◌}
use native.Mathlib.Omega.{arith}
use borrow.Author.Tests.{lt-ltb, le-ltb}
use lib.IntN.{pos, negsuc}
use mir.Syntax.{w16}
use mir.Val.{to_z}
use mir.Facts.{to_z_pos, to_z-neg}
use Rattle.std.proofs.Common.{mod-lt, mod-eq_of_lt, pow-suc, pow_pos, pow_mono}
use Rattle.bits.specs.Complement.{signed}
use Rattle.bits.specs.Fields.{bits}

-- digits below half of the power of two
low : (n d : ℕ) → d < 2 ^ (n - 1) → d < 2 ^ 15 → to_z w16 d ≡ signed n d
low n d h k = to_z_pos w16 k ∙ ap (λ (b : Bool). cond b (pos d) (negsuc (2 ^ n - 1 - d))) (sym (lt-ltb d (2 ^ (n - 1)) h))

-- digits from half of the power of two on, as the complement of what is left to all ones
high : (n d : ℕ) → 2 ^ (n - 1) ≤ d → 2 ^ n - 1 - d < 2 ^ 15 → to_z w16 (65535 - (2 ^ n - 1 - d)) ≡ signed n d
high n d h k =
    let e : 65535 - (2 ^ n - 1 - d) ≡ 2 ^ 16 - suc (2 ^ n - 1 - d) = omega arith in
    ap (to_z w16) e ∙ to_z-neg w16 (2 ^ n - 1 - d) k
    ∙ ap (λ (b : Bool). cond b (pos d) (negsuc (2 ^ n - 1 - d))) (sym (le-ltb d (2 ^ (n - 1)) h))

-- the half of a power of two, and of 2 ^ 0 its only digit
below_half : (n d : ℕ) → d * 2 < 2 ^ n → d < 2 ^ (n - 1)
below_half zero d h = omega arith
below_half (suc n) d h =
    let e : 2 ^ (suc n - 1) ≡ 2 ^ n = ap (λ (k : ℕ). 2 ^ k) (omega arith) in
    omega (arith, e, pow-suc 2 n)

from_half : (n d : ℕ) → d < 2 ^ n → 2 ^ n ≤ d * 2 → (2 ^ (n - 1) ≤ d) × (2 ^ n - 1 - d < 2 ^ (n - 1))
from_half zero d l h = absurd (omega arith)
from_half (suc n) d l h =
    let e : 2 ^ (suc n - 1) ≡ 2 ^ n = ap (λ (k : ℕ). 2 ^ k) (omega arith) in
    (omega (arith, e, pow-suc 2 n), omega (arith, e, pow-suc 2 n))

-- the power of two that the machine makes
pub whole : (n : ℕ) → n ≤ 16 → 1 * 2 ^ n % 4294967296 ≡ 2 ^ n
whole n h = ap (λ (x : ℕ). x % 4294967296) (omega arith) ∙ mod-eq_of_lt (omega (arith, pow_mono h))

-- the field of n bits up to bit 29, cut out with the power p
field : (n w : ℕ) → n ≤ 16 → w / 2 ^ (29 - n) % 2 ^ n ≡ bits (30 - n) 29 w
field n w h = ap₂ (λ (o k : ℕ). w / 2 ^ o % 2 ^ k) (omega arith) (omega arith)

pub signed_low : (n w p : ℕ) → n ≤ 16 → p ≡ 2 ^ n → (w / 2 ^ (29 - n) % p) * 2 < p
    → to_z w16 (w / 2 ^ (29 - n) % p) ≡ signed n (bits (30 - n) 29 w)
signed_low n w p h e = subst (λ (p : ℕ). (w / 2 ^ (29 - n) % p) * 2 < p → to_z w16 (w / 2 ^ (29 - n) % p) ≡ signed n (bits (30 - n) 29 w)) (sym e) by
  where
    d : ℕ
    d = w / 2 ^ (29 - n) % 2 ^ n

    by : d * 2 < 2 ^ n → to_z w16 d ≡ signed n (bits (30 - n) 29 w)
    by t =
        let b = below_half n d t in
        low n d b (omega (arith, b, pow_mono {i = n - 1} {j = 15} (omega arith))) ∙ ap (signed n) (field n w h)

pub signed_high : (n w p : ℕ) → n ≤ 16 → p ≡ 2 ^ n → p ≤ (w / 2 ^ (29 - n) % p) * 2
    → to_z w16 (65535 - (p - 1 - w / 2 ^ (29 - n) % p)) ≡ signed n (bits (30 - n) 29 w)
signed_high n w p h e = subst (λ (p : ℕ). p ≤ (w / 2 ^ (29 - n) % p) * 2 → to_z w16 (65535 - (p - 1 - w / 2 ^ (29 - n) % p)) ≡ signed n (bits (30 - n) 29 w)) (sym e) by
  where
    d : ℕ
    d = w / 2 ^ (29 - n) % 2 ^ n

    by : 2 ^ n ≤ d * 2 → to_z w16 (65535 - (2 ^ n - 1 - d)) ≡ signed n (bits (30 - n) 29 w)
    by t =
        let b = from_half n d (mod-lt (w / 2 ^ (29 - n)) (pow_pos n)) t in
        high n d b.0 (omega (arith, b.1, pow_mono {i = n - 1} {j = 15} (omega arith))) ∙ ap (signed n) (field n w h)
