-- Digits as they are read and as they are written are the same.
-- Assumes nothing.
use Rattle.std.specs.Prelude.{◌≡◌, refl, Bool, true, false, ◌&&◌, List, [], ◌∷◌, ℕ, ◌+◌, ◌-◌, ◌*◌, ltb}
use Rattle.std.proofs.Common.{ap, ap₂, ◌∙◌, arith, lt-ltb, ltb-true}
use Rattle.numerals.specs.Theorems.{Digits, value}
use Rattle.numerals.specs.Theorems as Written
use Rattle.typed_texts.specs.Numbers.{digit_of, value_from, value_of, are_digits}
use Rattle.typed_texts.specs.NumberLaws.{decimal_digit}
use Rattle.typed_texts.proofs.NumberLaws.{decimal-digits-only}

pub both : (x y : Bool) → (x && y) ≡ true → (x ≡ true) × (y ≡ true)
both true true h = (refl, refl)
both true false h = (refl, h)
both false y h = let z : ◌≡◌ {A = ℕ} 0 1 = cc in absurd (omega arith)

pub digits_read : (t : List ℕ) → Digits 10 t → are_digits 10 t ≡ true
digits_read [] h = refl
digits_read (c ∷ t) h =
    ap₂ ◌&&◌
    (ap (λ (d : ℕ). ltb d 10) (decimal_digit c h.0.0 h.0.1) ∙ lt-ltb (c - 48) 10 (omega (arith, h.0.0, h.0.1)))
    (digits_read t h.1)

pub digits-only : (t : List ℕ) → are_digits 10 t ≡ true → Digits 10 t
digits-only [] h = tt
digits-only (c ∷ t) h =
    let p = both (ltb (digit_of c) 10) (are_digits 10 t) h in
    (decimal-digits-only c (ltb-true (digit_of c) 10 p.0), digits-only t p.1)

value_from_lem : (v : ℕ) (t : List ℕ) → Digits 10 t → value_from 10 v t ≡ Written.value_from 10 v t
value_from_lem v [] h = refl
value_from_lem v (c ∷ t) h =
    ap (λ (d : ℕ). value_from 10 (v * 10 + d) t) (decimal_digit c h.0.0 h.0.1) ∙ value_from_lem (v * 10 + (c - 48)) t h.1

pub value_read : (t : List ℕ) → Digits 10 t → value_of 10 t ≡ value 10 t
value_read t h = value_from_lem 0 t h
