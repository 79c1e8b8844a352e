-- Odd parity for any width: one more bit above n bits makes the count of ones odd. It serves bit 32 of every word and bit 28 of label 154.
-- Assumes nothing.
use Rattle.std.specs.Prelude.{◌≡◌, refl, Bool, true, ℕ, zero, suc, ◌+◌, ◌-◌, ◌*◌, ◌/◌, ◌%◌, ◌^◌, ◌<◌, eqb}
use Rattle.std.proofs.Common.{sym, ap, ap₂, ◌∙◌, subst, mod-lt, lt_of_lt_of_le, div-add-mod', div-lt_iff_lt-mul, pow-suc, arith, eq-eqb, eqb-true, pow_pos, pow_mono, shr_lt}
use Rattle.std.proofs.Math.Arith.{lt-one}
use Rattle.std.specs.Int.Count.{ones, ones_in, ones_step}
use Rattle.std.proofs.lemmas.Nat.{ones_cat}
use Rattle.bits.specs.Laws.{widen}

-- the ones among the 32 lowest bits of x are odd in number
abbrev pub odd : ℕ → Bool
odd x = eqb (ones_in 32 x % 2) 1

-- the bit that makes the ones odd in number
abbrev pub parity_bit : ℕ → ℕ
parity_bit v = 1 - ones_in 32 v % 2

-- v in n bits, with its parity bit above
abbrev pub with_parity : ℕ → ℕ → ℕ
with_parity n v = parity_bit v * 2 ^ n + v

-- k steps count the ones of a number of k bits
pub ones_in_lem : (k v : ℕ) → v < 2 ^ k → ones v ≡ ones_in k v
unfolding ones_in ones
ones_in_lem zero v h = ap ones (lt-one h)
ones_in_lem (suc k) v h =
    ones_step v
    ∙ ap (λ (x : ℕ). v % 2 + x) (ones_in_lem k (v / 2) ((div-lt_iff_lt-mul (pow_pos 1)).1 (subst (λ (x : ℕ). v < x) (pow-suc 2 k) h)))

ones_bit : (b : ℕ) → b < 2 → ones b ≡ b
unfolding ones ones_in
ones_bit zero h = refl
ones_bit (suc zero) h = refl
ones_bit (suc (suc b)) h = absurd (omega arith)

-- with its parity bit a number of n bits is one of n + 1 bits
pub parity_lt : (n v : ℕ) → v < 2 ^ n → with_parity n v < 2 ^ (1 + n)
parity_lt n v h = widen (parity_bit v) v 1 n (omega arith) h

-- a bit b above a number r of n bits: the ones of both
ones_above : (n b r : ℕ) → n < 32 → b < 2 → r < 2 ^ n → ones_in 32 (b * 2 ^ n + r) ≡ b + ones_in 32 r
ones_above n b r hn hb hr =
    sym (ones_in_lem 32 (b * 2 ^ n + r) (lt_of_lt_of_le (widen b r 1 n hb hr) (pow_mono {j = 32} (omega arith))))
    ∙ ones_cat n b r hr
    ∙ ap₂ (λ (x y : ℕ). x + y) (ones_bit b hb) (ones_in_lem 32 r (lt_of_lt_of_le hr (pow_mono {j = 32} (omega arith))))

-- with its parity bit the ones are odd in number
pub parity_odd : (n v : ℕ) → n < 32 → v < 2 ^ n → odd (with_parity n v) ≡ true
parity_odd n v hn hv =
    let o : ones_in 32 (with_parity n v) ≡ parity_bit v + ones_in 32 v = ones_above n (parity_bit v) v hn (omega arith) hv in
    eq-eqb (ones_in 32 (with_parity n v) % 2) 1 (omega arith)

-- a number of n + 1 bits whose ones are odd in number is its n low bits with their parity bit
pub parity_only : (n x : ℕ) → n < 32 → x < 2 ^ (1 + n) → odd x ≡ true → with_parity n (x % 2 ^ n) ≡ x
parity_only n x hn hx t =
    let e : ones_in 32 x % 2 ≡ 1 = eqb-true (ones_in 32 x % 2) 1 t in
    let b : x / 2 ^ n < 2 = shr_lt 1 n hx in
    let o : ones_in 32 x ≡ x / 2 ^ n + ones_in 32 (x % 2 ^ n) =
    ap (ones_in 32) (sym (div-add-mod' x (2 ^ n))) ∙ ones_above n (x / 2 ^ n) (x % 2 ^ n) hn b (mod-lt x (pow_pos n)) in
    let p : parity_bit (x % 2 ^ n) ≡ x / 2 ^ n = omega arith in
    ap (λ (y : ℕ). y * 2 ^ n + x % 2 ^ n) p ∙ div-add-mod' x (2 ^ n)
