-- What a word of each kind holds writes the word's own fields again, and is legal.
-- Assumes nothing.
use Rattle.std.specs.Prelude.{◌≡◌, refl, true, ◌&&◌, [], ◌∷◌, ℕ, ◌/◌, ◌^◌, ◌<◌, eqb, leb}
use Rattle.std.proofs.Common.{sym, ap, ap₂, ◌∙◌, mod-lt, arith, lt-ltb, le-leb, leb-true, eqb-true, lit<, pow_pos}
use Rattle.std.specs.Int.Signed.{mag}
use Rattle.std.proofs.Math.Pow.{mod-mod-pow}
use Rattle.bits.specs.Fields.{bits, digits}
use Rattle.bits.specs.Layout.{split}
use Rattle.bits.specs.Laws.{both_true}
use Rattle.bits.specs.Complement.{signed, complement, complement-signed, signed-holds}
use Rattle.bits.specs.Parity.{with_parity, parity_only}
use Rattle.statuses.specs.Statuses.{binary_code, binary_status, decimal_code, decimal_status, decimal_listed, decimal_code_lem}
use Rattle.statuses.proofs.Statuses.{binary_code_lem}
use Rattle.codes.specs.Codes.{flag_bit, marker_code_lem, category_code_lem, flag-bit}
use Rattle.frequencies.specs.Frequencies.{tens_listed, frequency_in}
use Rattle.records.specs.Kinds.{kind_of}
use Rattle.records.specs.Layouts.{layout}
use Rattle.frequencies.specs.declared.Band.{Band}
use Rattle.records.specs.declared.Body.{Body}
use Rattle.records.specs.declared.Kind.{Kind}
use Rattle.decode.specs.Rules.{rules, decimal, body_of}
use Rattle.encode.specs.Fields.{decimal_digits, fields_of, status_bits}
use Rattle.encode.specs.Encode.{codes_listed, narrow, wide, values_legal}
use Rattle.roundtrip.specs.Digits.{digits-back}
use Rattle.roundtrip.specs.Reading.{Kept}

-- the body writes what the word w of kind k has
pub record Writes (k : Kind) (b : Body) (w : ℕ) : Type 0 where
  pub kind : kind_of b ≡ k
  pub fields : fields_of b ≡ split (layout k) w
  pub status : status_bits b ≡ bits 30 31 w
  pub codes : codes_listed b ≡ true
  pub values : values_legal b ≡ true

field_lt : (o n w : ℕ) → digits o n w < 2 ^ n
field_lt o n w = mod-lt (w / 2 ^ o) (pow_pos n)

status_back : (w : ℕ) → binary_code (binary_status (bits 30 31 w)) ≡ bits 30 31 w
status_back w = binary_code_lem (bits 30 31 w) (field_lt 29 2 w)

two : {a b c d : ℕ} → a ≡ c → b ≡ d → (a ∷ b ∷ []) ≡ (c ∷ d ∷ [])
two p q = ap₂ (λ (x y : ℕ). x ∷ y ∷ []) p q

three : {a b c d e f : ℕ} → a ≡ d → b ≡ e → c ≡ f → (a ∷ b ∷ c ∷ []) ≡ (d ∷ e ∷ f ∷ [])
three p q r = ap₂ ◌∷◌ p (two q r)

-- counts of 13 and of 16 bits
count-back : (n o w : ℕ) → complement n (signed n (digits o n w)) ≡ digits o n w
count-back n o w = complement-signed n (digits o n w) (field_lt o n w)

narrow_legal : (w : ℕ) → narrow (signed 13 (bits 17 29 w)) ≡ true
narrow_legal w = lt-ltb (mag (signed 13 (bits 17 29 w))) 4096 (signed-holds 13 (bits 17 29 w) (lit< tt) (field_lt 16 13 w))

wide_legal : (w : ℕ) → wide (signed 16 (bits 14 29 w)) ≡ true
wide_legal w = lt-ltb (mag (signed 16 (bits 14 29 w))) 32768 (signed-holds 16 (bits 14 29 w) (lit< tt) (field_lt 13 16 w))

flag-back : (o w : ℕ) → flag_bit (eqb (digits o 1 w) 1) ≡ digits o 1 w
flag-back o w = flag-bit (digits o 1 w) (field_lt o 1 w)

-- decimal words
module _ (b : Band) (w : ℕ) (k : Kept (decimal b w)) where
  digits-kept : decimal_digits b (frequency_in b w) ≡ bits 15 18 w ∷ bits 19 22 w ∷ bits 23 26 w ∷ bits 27 29 w ∷ []
  digits-kept =
      let d = both_true (leb (bits 15 18 w) 9) _ k.digits in
      let e = both_true (leb (bits 19 22 w) 9) (leb (bits 23 26 w) 9) d.1 in
      let c = both_true (decimal_listed (bits 30 31 w)) (tens_listed b (bits 27 29 w)) k.codes in
      digits-back b (bits 15 18 w) (bits 19 22 w) (bits 23 26 w) (bits 27 29 w) (leb-true (bits 15 18 w) 9 d.0)
      (leb-true (bits 19 22 w) 9 e.0) (leb-true (bits 23 26 w) 9 e.1) (field_lt 26 3 w) c.1

  decimal-back : decimal_code (decimal_status (bits 30 31 w)) ≡ bits 30 31 w
  decimal-back = decimal_code_lem (bits 30 31 w) (field_lt 29 2 w)

  decimal-kept : decimal_listed (decimal_code (decimal_status (bits 30 31 w))) ≡ true
  decimal-kept =
      ap decimal_listed decimal-back
      ∙ (both_true (decimal_listed (bits 30 31 w)) (tens_listed b (bits 27 29 w)) k.codes).0

-- the angle of 154 and its parity bit
angle_back : (w : ℕ) → Kept (rules Kind.GreatestGlideAngle w) → with_parity 8 (bits 20 27 w) ≡ bits 20 28 w
angle_back w k =
    ap (with_parity 8) (sym (mod-mod-pow (w / 2 ^ 19) 1 8)) ∙ parity_only 8 (bits 20 28 w) (lit< tt) (field_lt 19 9 w) k.angle

content_legal : (w : ℕ) → leb (bits 14 29 w) 65535 ≡ true
content_legal w = le-leb (bits 14 29 w) 65535 (omega (arith, field_lt 13 16 w))

writes : {k : Kind} {b : Body} {w : ℕ} → kind_of b ≡ k → fields_of b ≡ split (layout k) w → status_bits b ≡ bits 30 31 w → codes_listed b ≡ true → values_legal b ≡ true → Writes k b w
writes p q r c v = record { kind = p; fields = q; status = r; codes = c; values = v }

pub back : (k : Kind) (w : ℕ) → Kept (rules k w) → Writes k (body_of k w) w
back Kind.VorAzimuth w k = writes refl (two (marker_code_lem (bits 11 13 w) k.codes) (count-back 13 16 w)) (status_back w) refl (narrow_legal w)
back Kind.VorFrequency w k = writes refl (digits-kept Band.Vor w k) (decimal-back Band.Vor w k) (decimal-kept Band.Vor w k) k.value
back Kind.IlsCourse w k = writes refl (two (flag-back 10 w) (count-back 13 16 w)) (status_back w) refl (narrow_legal w)
back Kind.IlsGlide w k = writes refl (two (flag-back 10 w) (count-back 13 16 w)) (status_back w) refl (narrow_legal w)
back Kind.IlsFrequency w k = writes refl (ap₂ ◌∷◌ (category_code_lem (bits 11 12 w) (field_lt 10 2 w)) (digits-kept Band.Ils w k)) (decimal-back Band.Ils w k) (decimal-kept Band.Ils w k) k.value
back Kind.MlsFrequency w k = writes refl (digits-kept Band.Mls w k) (decimal-back Band.Mls w k) (decimal-kept Band.Mls w k) k.value
back Kind.MlsAzimuthDeviation w k = writes refl (three (flag-back 10 w) (flag-back 11 w) (count-back 16 13 w)) (status_back w) refl (wide_legal w)
back Kind.MlsGlideDeviation w k = writes refl (three (flag-back 10 w) (flag-back 11 w) (count-back 16 13 w)) (status_back w) refl (wide_legal w)
back Kind.SelectedAzimuth w k = writes refl (two (flag-back 18 w) refl) (status_back w) refl k.value
back Kind.GreatestGlideAngle w k = writes refl (ap (λ (x : ℕ). x ∷ []) (angle_back w k)) (status_back w) refl (le-leb (bits 20 27 w) 255 (omega (arith, field_lt 19 8 w)))
back Kind.SelectedGlideAngle w k = writes refl (two (flag-back 18 w) refl) (status_back w) refl (le-leb (bits 20 28 w) 511 (omega (arith, field_lt 19 9 w)))
back Kind.Part1 w k = writes refl refl (sym (eqb-true (bits 30 31 w) 0 k.codes)) refl (ap₂ ◌&&◌ (le-leb (bits 14 21 w) 255 (omega (arith, field_lt 13 8 w))) (le-leb (bits 22 29 w) 255 (omega (arith, field_lt 21 8 w))))
back Kind.Part2 w k = writes refl refl (sym (eqb-true (bits 30 31 w) 1 k.codes)) refl (content_legal w)
back Kind.Part3 w k = writes refl refl (sym (eqb-true (bits 30 31 w) 2 k.codes)) refl (content_legal w)
back Kind.Part4 w k = writes refl (two (flag-back 10 w) refl) (sym (eqb-true (bits 30 31 w) 3 k.codes)) refl (content_legal w)
