-- The theorems on typed figures: what is read is exactly the grammar, and the printed figures are read back.
-- Assumes nothing.
use Rattle.std.proofs.Math.Path.{◌≡◌, refl}
use Rattle.std.proofs.Common.{sym, ap, ap₂, ◌∙◌, append_assoc, inl, inr, arith}
use Rattle.std.specs.Prelude.{Bool, List, [], ◌∷◌, ◌++◌, ◌⊎◌, ℕ, zero, suc, ◌+◌, ◌-◌, ◌*◌, ◌/◌, ◌%◌, ◌^◌, ◌<◌, length}
use Rattle.std.proofs.Math.Bool.{true, false}
use Rattle.rounding.specs.Parts.{with_sign}
use Rattle.signed_numbers.specs.Signed.{Fits}
use Rattle.numerals.specs.Digits.{padded, decimal, fixed, sign, signed_fixed}
use Rattle.numerals.specs.Theorems.{Digits, value_from, value, first, decimal-digits, decimal-value, decimal-zero, decimal-leading, padded-digits, padded-value, padded-length}
use Rattle.numerals.specs.Values.{value_weighs, value-below, padded-of-value, decimal-of-value}
use Rattle.typed_figures.specs.Grammar.{Sign, none, minus, point, Typed}

-- ---- what is read is exactly the grammar

-- ---- the printed figures

pub printed-sign : (b : Bool) → Sign (sign b) b
printed-sign true = minus
printed-sign false = none

-- the whole digits and the six decimals of a number mean it
whole-and_six : (n : ℕ) → value 10 (decimal (n / 10 ^ 6)) * 10 ^ 6 + value 10 (padded 10 6 n) * 10 ^ (6 - length (padded 10 6 n)) ≡ n
whole-and_six n =
    ap₂ (λ (x y : ℕ). x * 10 ^ 6 + y * 10 ^ (6 - length (padded 10 6 n))) (decimal-value (n / 10 ^ 6)) (padded-value 10 6 n (omega arith))
    ∙ ap (λ (places : ℕ). n / 10 ^ 6 * 10 ^ 6 + n % 10 ^ 6 * 10 ^ (6 - places)) (padded-length 10 6 n)
    ∙ omega arith

pub printed-typed : (b : Bool) (n : ℕ) → Fits (with_sign b n) → Typed (sign b ++ fixed 6 n) (with_sign b n)
printed-typed b n h =
    record {
      negative = b;
      signed = sign b;
      whole = decimal (n / 10 ^ 6);
      separated = 46 ∷ [];
      decimals = padded 10 6 n;
      row = ap (λ (t : List ℕ). sign b ++ t) (append_assoc (decimal (n / 10 ^ 6)) (46 ∷ []) (padded 10 6 n));
      sign = printed-sign b;
      separator = point;
      whole-digits = decimal-digits (n / 10 ^ 6);
      decimal-digits = padded-digits 10 6 n (omega arith);
      some = omega (arith, padded-length 10 6 n);
      six = omega (arith, padded-length 10 6 n);
      number = ap (with_sign b) (sym (whole-and_six n));
      fits = h;
    }

-- A text in the printed form is what is printed of the number that is read of it.
pub signed-printed : (b : Bool) (n : ℕ) → (b ≡ true → 0 < n) → signed_fixed 6 (with_sign b n) ≡ sign b ++ fixed 6 n
signed-printed false n h = refl
signed-printed true zero h = absurd (omega (arith, h refl))
signed-printed true (suc n) h = refl

pub fixed-of-parts : (w d : List ℕ) → Digits 10 w → Digits 10 d → (w ≡ 48 ∷ []) ⊎ (48 < first w) → length d ≡ 6 → (n : ℕ) → n ≡ value 10 w * 10 ^ 6 + value 10 d
    → fixed 6 n ≡ w ++ (46 ∷ d)
fixed-of-parts w d h k zeros six n e =
    append_assoc (decimal (n / 10 ^ 6)) (46 ∷ []) (padded 10 6 n)
    ∙ ap₂ (λ (s r : List ℕ). s ++ (46 ∷ r)) (ap decimal units ∙ decimal-of-value w h zeros) (ap₂ (padded 10) (sym six) behind ∙ padded-of-value (value 10 w) d k)
  where
    below : value 10 d < 10 ^ 6
    below = rw six at (value-below d k)

    units : n / 10 ^ 6 ≡ value 10 w
    units = omega (arith, below)

    behind : n ≡ value_from 10 (value 10 w) d
    behind = e ∙ sym (rw six at (value_weighs (value 10 w) d))

-- What is printed is in the printed form.
pub no_leading-zero : (n : ℕ) → (decimal n ≡ 48 ∷ []) ⊎ (48 < first (decimal n))
no_leading-zero zero = inl decimal-zero
no_leading-zero (suc n) = inr (decimal-leading (suc n) (omega arith))
