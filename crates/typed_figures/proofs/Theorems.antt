-- The theorems on typed figures: what is read is exactly the grammar, and the printed figures are read back.
-- Assumes nothing.
use Rattle.std.proofs.Math.Path.{◌≡◌, refl}
use Rattle.std.proofs.Common.{sym, ap, ap₂, ◌∙◌, append_assoc, arith, ltb-true, leb-true, lt-ltb, le-leb}
use Rattle.std.specs.Prelude.{Bool, ◌&&◌, List, [], ◌∷◌, ◌++◌, ◌↔◌, ℕ, suc, ◌+◌, ◌-◌, ◌*◌, ◌/◌, ◌^◌, ◌<◌, ltb, leb, ℤ, pos, negsuc, length, Option, Some, None}
use Rattle.std.proofs.Math.Bool.{true, false, cond}
use Rattle.rounding.specs.Parts.{with_sign}
use Rattle.signed_numbers.specs.Signed.{Fits, signed_of}
use Rattle.signed_numbers.proofs.SignedTheorems.{signed_exactly}
use Rattle.numerals.specs.Digits.{padded, decimal, fixed, sign, signed_fixed}
use Rattle.numerals.specs.Theorems.{Digits, value, decimal-digits, decimal-value, padded-digits, padded-value, padded-length}
use Rattle.typed_texts.specs.Texts.{text_before, text_behind, starts_with}
use Rattle.typed_texts.specs.Numbers.{are_digits}
use Rattle.typed_figures.specs.Figures.{behind_sign, separator_of, are_parts, millionths_of, parts_read, figure_of}
use Rattle.typed_figures.specs.Grammar.{point, Typed, Printed}
use Rattle.typed_figures.specs.DigitTexts.{both, digits_read, digits-only, value_read}
use Rattle.typed_figures.specs.Rows.{sign-row}
use Rattle.typed_figures.proofs.Rows.{body_row, row_read}
use Rattle.typed_figures.specs.Theorems.{printed-sign, printed-typed, signed-printed, fixed-of-parts, no_leading-zero}

module _ (negative : Bool) (w d : List ℕ) (z : ℤ) where
  parts_there : parts_read negative w d ≡ Some z → (are_parts w d ≡ true) × (signed_of negative (millionths_of w d) ≡ Some z)
  unfolding parts_read
  parts_there = go (are_parts w d) refl
    where
      go : (b : Bool) → are_parts w d ≡ b → cond b (signed_of negative (millionths_of w d)) None ≡ Some z → (are_parts w d ≡ true) × (signed_of negative (millionths_of w d) ≡ Some z)
      go true e h = (e, h)
      go false e h = let k : ◌≡◌ {A = ℕ} 0 1 = cc in absurd (omega arith)

  parts-back : are_parts w d ≡ true → signed_of negative (millionths_of w d) ≡ Some z → parts_read negative w d ≡ Some z
  unfolding parts_read
  parts-back e h = rw (e, h) refl

-- the millionths of digits
millionths-value : (w d : List ℕ) → Digits 10 w → Digits 10 d → millionths_of w d ≡ value 10 w * 10 ^ 6 + value 10 d * 10 ^ (6 - length d)
millionths-value w d h k = ap₂ (λ (x y : ℕ). x * 10 ^ 6 + y * 10 ^ (6 - length d)) (value_read w h) (value_read d k)

read_typed : (t : List ℕ) (z : ℤ) → figure_of t ≡ Some z → Typed t z
unfolding figure_of
read_typed t z e =
    let g = sign-row t in
    let s = body_row (behind_sign t) in
    let n = starts_with 45 t in
    let w = text_before (separator_of (behind_sign t)) (behind_sign t) in
    let d = text_behind (separator_of (behind_sign t)) (behind_sign t) in
    let p = parts_there n w d z e in
    let tests = both (leb (length d) 6 && ltb 0 (length w + length d)) (are_digits 10 w && are_digits 10 d) p.0 in
    let lengths = both (leb (length d) 6) (ltb 0 (length w + length d)) tests.0 in
    let digits = both (are_digits 10 w) (are_digits 10 d) tests.1 in
    let h = digits-only w digits.0 in
    let k = digits-only d digits.1 in
    let number = (signed_exactly n (millionths_of w d) z).0 p.1 in
    record {
      negative = n;
      signed = g.0;
      whole = w;
      separated = s.0;
      decimals = d;
      row = g.1.1 ∙ ap (λ (b : List ℕ). g.0 ++ b) s.1.1;
      sign = g.1.0;
      separator = s.1.0;
      whole-digits = h;
      decimal-digits = k;
      some = ltb-true 0 (length w + length d) lengths.1;
      six = leb-true (length d) 6 lengths.0;
      number = number.0 ∙ ap (with_sign n) (millionths-value w d h k);
      fits = number.1;
    }

typed_read : (t : List ℕ) (z : ℤ) → Typed t z → figure_of t ≡ Some z
typed_read t z y =
    ap figure_of y.row
    ∙ row_read y.sign y.separator y.whole y.whole-digits y.decimal-digits
    ∙ parts-back y.negative y.whole y.decimals z
    (ap₂ ◌&&◌
    (ap₂ ◌&&◌ (le-leb (length y.decimals) 6 y.six) (lt-ltb 0 (length y.whole + length y.decimals) y.some))
    (ap₂ ◌&&◌ (digits_read y.whole y.whole-digits) (digits_read y.decimals y.decimal-digits)))
    ((signed_exactly y.negative (millionths_of y.whole y.decimals) z).1
    (y.number ∙ ap (with_sign y.negative) (sym (millionths-value y.whole y.decimals y.whole-digits y.decimal-digits)), y.fits))

-- A text is read as a number of millionths exactly where the grammar gives it that number.
pub typed_exactly : (t : List ℕ) (z : ℤ) → (figure_of t ≡ Some z) ↔ Typed t z
typed_exactly t z = (read_typed t z, typed_read t z)

-- So a text means one figure at most,
pub one_figure : (t : List ℕ) (y z : ℤ) → Typed t y → Typed t z → y ≡ z
one_figure t y z a b = let e = typed_read t y a in let f = typed_read t z b in cc

-- and what is unread is exactly what is not in the grammar.
pub unread_exactly : (t : List ℕ) → (figure_of t ≡ None) ↔ ((z : ℤ) → Typed t z → ⊥)
unread_exactly t = (λ e z y. clash z (sym (typed_read t z y) ∙ e), λ f. go (figure_of t) refl f)
  where
    clash : (z : ℤ) → Some z ≡ None → ⊥
    clash z e = let k : ◌≡◌ {A = ℕ} 0 1 = cc in omega arith

    go : (r : Option ℤ) → figure_of t ≡ r → ((z : ℤ) → Typed t z → ⊥) → r ≡ None
    go (Some z) e f = absurd (f z (read_typed t z e))
    go None e f = refl

-- What is printed of a number is read as that number.
pub printed_read : (z : ℤ) → Fits z → figure_of (signed_fixed 6 z) ≡ Some z
printed_read (pos n) h = typed_read (signed_fixed 6 (pos n)) (pos n) (printed-typed false n h)
printed_read (negsuc n) h = typed_read (signed_fixed 6 (negsuc n)) (negsuc n) (printed-typed true (suc n) h)

pub read_printed : (t : List ℕ) → Printed t → (z : ℤ) → figure_of t ≡ Some z → signed_fixed 6 z ≡ t
read_printed t p z e =
    let b = p.negative in
    let w = p.whole in
    let d = p.decimals in
    let n = value 10 w * 10 ^ 6 + value 10 d in
    let read = sym (row_read (printed-sign b) point w p.whole-digits p.decimal-digits) ∙ ap figure_of (sym p.row) ∙ e in
    let number : z ≡ with_sign b (millionths_of w d) = ((signed_exactly b (millionths_of w d) z).0 (parts_there b w d z read).1).0 in
    let millionths : millionths_of w d ≡ n =
    millionths-value w d p.whole-digits p.decimal-digits ∙ rw p.six (omega arith) in
    ap (signed_fixed 6) (number ∙ ap (with_sign b) millionths)
    ∙ signed-printed b n (λ f. omega (arith, p.no_minus_zero f))
    ∙ ap (λ (r : List ℕ). sign b ++ r) (fixed-of-parts w d p.whole-digits p.decimal-digits p.no_leading-zero p.six n refl)
    ∙ sym p.row

printed-parts : (b : Bool) (n : ℕ) → (b ≡ true → 0 < n) → Printed (sign b ++ fixed 6 n)
printed-parts b n h =
    record {
      negative = b;
      whole = decimal (n / 10 ^ 6);
      decimals = padded 10 6 n;
      row = ap (λ (t : List ℕ). sign b ++ t) (append_assoc (decimal (n / 10 ^ 6)) (46 ∷ []) (padded 10 6 n));
      whole-digits = decimal-digits (n / 10 ^ 6);
      decimal-digits = padded-digits 10 6 n (omega arith);
      no_leading-zero = no_leading-zero (n / 10 ^ 6);
      six = padded-length 10 6 n;
      no_minus_zero = λ e. rw (decimal-value (n / 10 ^ 6), padded-value 10 6 n (omega arith)) (omega (arith, h e));
    }

pub printed_form : (z : ℤ) → Printed (signed_fixed 6 z)
printed_form (pos n) = printed-parts false n (λ e. let k : ◌≡◌ {A = ℕ} 0 1 = cc in absurd (omega arith))
printed_form (negsuc n) = printed-parts true (suc n) (λ e. omega arith)
