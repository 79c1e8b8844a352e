-- The parts of a text by the tests of the code, and what a part that is too long or too great leaves unread.
-- Assumes nothing.
use Rattle.std.specs.Prelude.{Some, None}
use mathlib.Core.Path.{◌≡◌, refl, sym, ap, ap₂, ◌∙◌}
use mathlib.Core.Bool.{Bool, true, false, not, cond, ◌&&◌, ◌||◌}
use mathlib.Core.List.{List, [], ◌∷◌}
use Prim.Native.Nat.{ℕ, zero, suc, ◌+◌, ◌-◌, ◌*◌, ◌^◌, ◌≤◌, ◌<◌}
use native.Mathlib.Nat.{pow-le-pow_right}
use native.Mathlib.Omega.{arith}
use borrow.Author.Tests.{leb-true, leb-false, lt-ltb, le-ltb, le-leb, ne_eqb}
use lib.Dec.{eqb, ltb, leb}
use lib.ListN.{length, take, drop, length-append}
use Rattle.signed_numbers.specs.Signed.{greatest, signed_of}
use Rattle.signed_numbers.proofs.SignedTheorems.{signed_large}
use Rattle.numerals.specs.Values.{value-below}
use Rattle.typed_texts.specs.Texts.{text_before, text_behind, starts_with}
use Rattle.typed_texts.specs.TextLaws.{has, parts, whole}
use Rattle.typed_texts.specs.Numbers.{value_of, are_digits, numeral, numeral_of}
use Rattle.typed_texts.specs.NumberLaws.{read_within}
use Rattle.typed_parts.proofs.Parts.{rest}
use Rattle.typed_figures.specs.Figures.{behind_sign, separator_of, are_parts, millionths_of, parts_read}
use Rattle.typed_figures.specs.DigitTexts.{both, digits-only, value_read}
use Rattle.figure_reader.specs.Digits.{digits_of}

-- ---- the sign

pub sign_there : (t : List ℕ) → (starts_with 45 t || starts_with 43 t) ≡ true → 1 ≤ length t
sign_there [] h = let z : ◌≡◌ {A = ℕ} 0 1 = cc in absurd (omega arith)
sign_there (c ∷ t) h = omega arith

pub sign-dropped : (t : List ℕ) → (starts_with 45 t || starts_with 43 t) ≡ true → take (length t - 1) (drop 1 t) ≡ behind_sign t
sign-dropped [] h = refl
sign-dropped (c ∷ t) h = rest (c ∷ t) 1 ∙ ap (λ (b : Bool). cond b t (c ∷ t)) (sym h)

pub no_sign : (t : List ℕ) → (starts_with 45 t || starts_with 43 t) ≡ false → t ≡ behind_sign t
no_sign [] h = refl
no_sign (c ∷ t) h = ap (λ (b : Bool). cond b t (c ∷ t)) (sym h)

-- ---- the separator

pub point_there : (t before : List ℕ) → before ≡ text_before 46 t → length before < length t → 46 ≡ separator_of t
point_there t before e h = go (has 46 t) refl
  where
    go : (b : Bool) → has 46 t ≡ b → ◌≡◌ {A = ℕ} 46 (cond b 46 44)
    go true k = refl
    go false k = absurd (omega (arith, ap length (e ∙ (whole 46 t k).0)))

pub no_point : (t before : List ℕ) → before ≡ text_before 46 t → length t ≤ length before → 44 ≡ separator_of t
no_point t before e h = go (has 46 t) refl
  where
    go : (b : Bool) → has 46 t ≡ b → ◌≡◌ {A = ℕ} 44 (cond b 46 44)
    go true k = absurd (omega (arith, ap length e, ap length (parts 46 t k), length-append (text_before 46 t) (46 ∷ text_behind 46 t)))
    go false k = refl

-- ---- the digits of a part

pub none_read : (most : ℕ) (t : List ℕ) → length t ≡ 0 → Some 0 ≡ digits_of most t
none_read most [] h = refl
none_read most (c ∷ t) h = absurd (omega arith)

pub some_read : (most : ℕ) (t : List ℕ) → (length t ≡ 0 → ⊥) → numeral_of 10 most t ≡ digits_of most t
some_read most [] h = absurd (h refl)
some_read most (c ∷ t) h = refl

-- a number exactly where all are digits and no greater than the greatest
digits_numeral : (most : ℕ) (t : List ℕ) → digits_of most t ≡ numeral (are_digits 10 t && leb (value_of 10 t) most) (value_of 10 t)
digits_numeral most [] = ap (λ (b : Bool). numeral b 0) (sym (le-leb 0 most (omega arith)))
digits_numeral most (c ∷ t) = refl

numeral_some : (b : Bool) (v n : ℕ) → Some n ≡ numeral b v → (b ≡ true) × (n ≡ v)
numeral_some true v n e = let same : n ≡ v = cc in (refl, same)
numeral_some false v n e = let z : ◌≡◌ {A = ℕ} 0 1 = cc in absurd (omega arith)

numeral_none : (b : Bool) (v : ℕ) → None ≡ numeral b v → b ≡ false
numeral_none true v e = let z : ◌≡◌ {A = ℕ} 0 1 = cc in absurd (omega arith)
numeral_none false v e = refl

digits_none : (most : ℕ) (t : List ℕ) → None ≡ digits_of most t → (are_digits 10 t && leb (value_of 10 t) most) ≡ false
digits_none most t e =
    numeral_none (are_digits 10 t && leb (value_of 10 t) most) (value_of 10 t) (e ∙ digits_numeral most t)

digits_some : (most : ℕ) (t : List ℕ) (n : ℕ) → Some n ≡ digits_of most t → (are_digits 10 t ≡ true) × (n ≡ value_of 10 t)
digits_some most t n e =
    let k = numeral_some (are_digits 10 t && leb (value_of 10 t) most) (value_of 10 t) n (e ∙ digits_numeral most t) in
    ((both (are_digits 10 t) (leb (value_of 10 t) most) k.0).0, k.1)

pub digits_within : (most : ℕ) (t : List ℕ) (n : ℕ) → Some n ≡ digits_of most t → n ≤ most
digits_within most [] n e = let same : n ≡ 0 = cc in omega arith
digits_within most (c ∷ t) n e = read_within 10 most (c ∷ t) n e

-- ---- the parts

-- the code's test of the lengths
long_or_empty : (m n : ℕ) → (leb n 6 && ltb 0 (m + n)) ≡ not (ltb 6 n || (eqb m 0 && eqb n 0))
long_or_empty m n = go (leb n 6) refl
  where
    empty : (m n : ℕ) → ltb 0 (m + n) ≡ not (eqb m 0 && eqb n 0)
    empty zero zero = refl
    empty zero (suc n) = lt-ltb 0 (zero + suc n) (omega arith) ∙ ap not (sym (ne_eqb (suc n) 0 (λ e. omega arith)))
    empty (suc m) n =
        lt-ltb 0 (suc m + n) (omega arith) ∙ ap (λ (x : Bool). not (x && eqb n 0)) (sym (ne_eqb (suc m) 0 (λ e. omega arith)))

    go : (b : Bool) → leb n 6 ≡ b → (b && ltb 0 (m + n)) ≡ not (ltb 6 n || (eqb m 0 && eqb n 0))
    go true e = empty m n ∙ ap (λ (x : Bool). not (x || (eqb m 0 && eqb n 0))) (sym (le-ltb 6 n (leb-true n 6 e)))
    go false e = ap (λ (x : Bool). not (x || (eqb m 0 && eqb n 0))) (sym (lt-ltb 6 n (leb-false n 6 e)))

-- six decimals are below a million
decimals_small : (d : List ℕ) → length d ≤ 6 → are_digits 10 d ≡ true → value_of 10 d ≤ 999999
decimals_small d h e =
    let k = digits-only d e in
    omega (arith, value_read d k, value-below d k, pow-le-pow_right {n = 10} (omega arith) {i = length d} {j = 6} h)

pub weight_small : (n p : ℕ) → p ≡ 10 ^ (6 - n) → p ≤ 1000000
weight_small n p e = omega (arith, e, pow-le-pow_right {n = 10} (omega arith) {i = 6 - n} {j = 6} (omega arith))

limit : (negative : Bool) → greatest negative ≤ 9223372036854775808
limit true = omega arith
limit false = omega arith

module _ (negative : Bool) (w d : List ℕ) where
  pub lengths_unread : (ltb 6 (length d) || (eqb (length w) 0 && eqb (length d) 0)) ≡ true → None ≡ parts_read negative w d
  unfolding parts_read
  lengths_unread h = rw (long_or_empty (length w) (length d)) (rw h refl)

  module _ (short : (ltb 6 (length d) || (eqb (length w) 0 && eqb (length d) 0)) ≡ false) where
    lengths_right : (leb (length d) 6 && ltb 0 (length w + length d)) ≡ true
    lengths_right = long_or_empty (length w) (length d) ∙ ap not short

    six : length d ≤ 6
    six = leb-true (length d) 6 (both (leb (length d) 6) (ltb 0 (length w + length d)) lengths_right).0

    parts-digits : are_parts w d ≡ (are_digits 10 w && are_digits 10 d)
    parts-digits = ap (λ (b : Bool). b && (are_digits 10 w && are_digits 10 d)) lengths_right

    -- whole digits past the greatest number are too large with any decimals
    whole_large : 9223372036854 < value_of 10 w → signed_of negative (millionths_of w d) ≡ None
    whole_large great = signed_large negative (millionths_of w d) (omega (arith, great, limit negative))

    of-digits : (a b : Bool) → are_digits 10 w ≡ a → are_digits 10 d ≡ b → cond (a && b) (signed_of negative (millionths_of w d)) None ≡ parts_read negative w d
    unfolding parts_read
    of-digits a b e f = ap (λ (x : Bool). cond x (signed_of negative (millionths_of w d)) None) (sym (parts-digits ∙ ap₂ ◌&&◌ e f))

    pub whole_unread : None ≡ digits_of 9223372036854 w → None ≡ parts_read negative w d
    whole_unread n = go (are_digits 10 w) (are_digits 10 d) refl refl
      where
        go : (a b : Bool) → are_digits 10 w ≡ a → are_digits 10 d ≡ b → None ≡ parts_read negative w d
        go true true e f =
            let great = leb-false (value_of 10 w) 9223372036854 (ap (λ (x : Bool). x && leb (value_of 10 w) 9223372036854) (sym e) ∙ digits_none 9223372036854 w n) in
            sym (whole_large great) ∙ of-digits true true e f
        go true false e f = of-digits true false e f
        go false b e f = of-digits false b e f

    pub decimals_unread : None ≡ digits_of 999999 d → None ≡ parts_read negative w d
    decimals_unread n = go (are_digits 10 w) (are_digits 10 d) refl refl
      where
        go : (a b : Bool) → are_digits 10 w ≡ a → are_digits 10 d ≡ b → None ≡ parts_read negative w d
        go a true e f =
            let great = leb-false (value_of 10 d) 999999 (ap (λ (x : Bool). x && leb (value_of 10 d) 999999) (sym f) ∙ digits_none 999999 d n) in
            absurd (omega (arith, great, decimals_small d six f))
        go true false e f = of-digits true false e f
        go false false e f = of-digits false false e f

    pub digits-taken : (units rest : ℕ) → Some units ≡ digits_of 9223372036854 w → Some rest ≡ digits_of 999999 d
        → signed_of negative (units * 1000000 + rest * 10 ^ (6 - length d)) ≡ parts_read negative w d
    digits-taken units rest e f =
        let a = digits_some 9223372036854 w units e in
        let b = digits_some 999999 d rest f in
        ap₂ (λ (x y : ℕ). signed_of negative (x * 1000000 + y * 10 ^ (6 - length d))) a.1 b.1 ∙ of-digits true true a.0 b.0
