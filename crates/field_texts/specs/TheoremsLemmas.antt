-- What the proofs of `Theorems` cite: the digits of bytes, a byte of a note by the test of it, and texts of printable ASCII joined.
-- Assumes nothing.
use Rattle.std.specs.Prelude.{◌≡◌, refl, Bool, true, false, cond, List, [], ◌∷◌, ◌++◌, ℕ, suc, ◌+◌, ◌*◌, ◌/◌, ◌%◌, ◌^◌, ◌≤◌, ◌<◌, ltb, ℤ, pos, negsuc, length, Result, Ok, Err}
use Rattle.std.proofs.Common.{sym, ap, ◌∙◌, add-mul, mul_assoc, arith, pow-add}
use Rattle.refusals.specs.declared.Refusal.{Refusal}
use Rattle.contents.specs.BigEndian.{value_of, Bytes}
use Rattle.text.specs.Ascii.{ascii}
use Rattle.hex_texts.specs.HexTexts.{hex_digit, hex_byte}
use Rattle.hex_texts.specs.Reading.{hex_from}
use Rattle.hex_texts.specs.Theorems.{byte_after}
use Rattle.numerals.specs.Digits.{decimal, padded, octal3, fixed, signed_fixed}
use Rattle.numerals.specs.Theorems.{Digits, decimal-digits, padded-digits}
use Rattle.field_texts.specs.FieldTexts.{figure_words, each, hex_bytes}
use Rattle.field_texts.specs.Reading.{Printable}

-- ---- the digits of bytes

grown : (v b p x : ℕ) → (v * 256 + b) * p + x ≡ v * (256 * p) + (b * p + x)
grown v b p x = omega (arith, add-mul (v * 256) b p, mul_assoc v 256 p)

wider : (n : ℕ) → 256 * 2 ^ (8 * n) ≡ 2 ^ (8 * suc n)
wider n = let e : 8 + 8 * n ≡ 8 * suc n = omega arith in sym (pow-add 2 8 (8 * n)) ∙ ap (λ (k : ℕ). 2 ^ k) e

pub bytes_after : (v : ℕ) (bs : List ℕ) → Bytes bs → hex_from v (hex_bytes bs) ≡ v * 2 ^ (8 * length bs) + value_of bs
bytes_after v [] h = omega arith
bytes_after v (b ∷ bs) h =
    ap (λ (x : ℕ). hex_from x (hex_bytes bs)) (byte_after v b h.0)
    ∙ bytes_after (v * 256 + b) bs h.1
    ∙ grown v b (2 ^ (8 * length bs)) (value_of bs)
    ∙ ap (λ (p : ℕ). v * p + value_of (b ∷ bs)) (wider (length bs))

pub bytes_length : (bs : List ℕ) → length (hex_bytes bs) ≡ 2 * length bs
bytes_length [] = refl
bytes_length (b ∷ bs) = omega (arith, bytes_length bs)

-- ---- notes

-- ---- printable ASCII

pub printable_both : (s t : List ℕ) → Printable s → Printable t → Printable (s ++ t)
printable_both [] t h k = k
printable_both (c ∷ s) t h k = (h.0, printable_both s t h.1 k)

digit_printable : (d : ℕ) → d < 16 → (0x20 ≤ hex_digit d) × (hex_digit d ≤ 0x7E)
digit_printable d h = by (ltb d 10)
  where
    by : (b : Bool) → (0x20 ≤ cond b (48 + d) (55 + d)) × (cond b (48 + d) (55 + d) ≤ 0x7E)
    by true = (omega arith, omega arith)
    by false = (omega arith, omega arith)

pub hex_byte_printable : (b : ℕ) → Printable (hex_byte b)
hex_byte_printable b = (digit_printable (b / 16 % 16) (omega arith), (digit_printable (b % 16) (omega arith), tt))

pub each_printable : (f : ℕ → List ℕ) → ((b : ℕ) → Printable (f b)) → (bs : List ℕ) → Printable (each f bs)
each_printable f h [] = tt
each_printable f h (b ∷ bs) = printable_both (f b) (each f bs) (h b) (each_printable f h bs)

pub blank_printable : Printable (ascii " ")
blank_printable = ((omega arith, omega arith), tt)

digits_printable : (base : ℕ) (t : List ℕ) → base ≤ 10 → Digits base t → Printable t
digits_printable base [] h k = tt
digits_printable base (d ∷ t) h k = ((omega (arith, k.0.0), omega (arith, k.0.1)), digits_printable base t h k.1)

pub decimal_printable : (n : ℕ) → Printable (decimal n)
decimal_printable n = digits_printable 10 (decimal n) (omega arith) (decimal-digits n)

fixed_printable : (n : ℕ) → Printable (fixed 6 n)
fixed_printable n =
    printable_both (decimal (n / 10 ^ 6) ++ (46 ∷ [])) (padded 10 6 n)
    (printable_both (decimal (n / 10 ^ 6)) (46 ∷ []) (decimal_printable (n / 10 ^ 6)) ((omega arith, omega arith), tt))
    (digits_printable 10 (padded 10 6 n) (omega arith) (padded-digits 10 6 n (omega arith)))

signed_printable : (z : ℤ) → Printable (signed_fixed 6 z)
signed_printable (pos n) = fixed_printable n
signed_printable (negsuc n) = ((omega arith, omega arith), fixed_printable (suc n))

pub figure_printable : (f : Result (ℕ × ℤ) Refusal) → Printable (figure_words f)
figure_printable (Ok (label, millionths)) =
    printable_both (octal3 label ++ ascii " ") (signed_fixed 6 millionths)
    (printable_both (octal3 label) (ascii " ") (digits_printable 8 (octal3 label) (omega arith) (padded-digits 8 3 label (omega arith))) blank_printable)
    (signed_printable millionths)
figure_printable (Err f) = tt
