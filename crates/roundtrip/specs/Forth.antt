-- A word whose fields hold what a legal body writes keeps its kind's rules, and holds that body.
-- Assumes nothing.
use Rattle.std.specs.Prelude.{◌≡◌, refl, Bool, true, ◌&&◌, List, [], ◌∷◌, ◌++◌, ℕ, ◌-◌, ◌/◌, ◌%◌, ◌^◌, ◌<◌, eqb, leb, ltb, ℤ, get_or}
use Rattle.std.proofs.Common.{sym, ap, ap₂, ◌∙◌, arith, le-leb, ltb-true, leb-true, eq-eqb, lit<}
use Rattle.std.proofs.Math.Pow.{mod-mod-pow, low}
use Rattle.std.specs.Int.Signed.{mag}
use Rattle.bits.specs.Fields.{bits}
use Rattle.bits.specs.Layout.{split}
use Rattle.bits.specs.Complement.{signed, complement, signed-complement}
use Rattle.bits.specs.Parity.{odd, parity_bit, parity_odd}
use Rattle.statuses.specs.Statuses.{binary_status, binary_code, decimal_status, decimal_code, decimal_listed, decimal_status_lem}
use Rattle.statuses.proofs.Statuses.{binary_status_lem}
use Rattle.codes.specs.Codes.{marker_of, marker_code, marker_listed, marker_of_lem, category_of, category_of_lem, flag_bit, flag-of}
use Rattle.frequencies.specs.Frequencies.{tens_code, frequency_in}
use Rattle.channels.specs.Channels.{legal_frequency, legal_expressible}
use Rattle.records.specs.Kinds.{kind_of}
use Rattle.records.specs.Layouts.{word_layout}
use Rattle.frequencies.specs.declared.Band.{Band}
use Rattle.records.specs.declared.Body.{Body}
use Rattle.codes.specs.declared.Marker.{Marker}
use Rattle.codes.specs.declared.Marker.TheVariants.{None, Outer, Middle, Inner}
use Rattle.statuses.specs.declared.Status.{Status}
use Rattle.decode.specs.Rules.{Rules, rules, decimal, body_of}
use Rattle.encode.specs.Fields.{fields_of, status_bits}
use Rattle.encode.specs.Encode.{codes_listed, values_legal}
use Rattle.roundtrip.specs.Digits.{frequency-back, tens_code_listed}
use Rattle.roundtrip.specs.Reading.{Kept}

-- the word w has these values in its fields: the label's byte, the source, what the body writes, and the parity bit
abbrev pub Holds : ℕ → ℕ → Body → ℕ → ℕ → Type 0
Holds byte source b parity w =
    split (word_layout (kind_of b)) w ≡ (byte ∷ source ∷ (fields_of b ++ (status_bits b ∷ []))) ++ (parity ∷ [])

-- such a word is one that reads as the body
abbrev Reads : Body → ℕ → Type 0
Reads b w = Kept (rules (kind_of b) w) × (body_of (kind_of b) w ≡ b)

kept : {r : Rules} → r.digits ≡ true → r.codes ≡ true → r.value ≡ true → r.angle ≡ true → Kept r
kept d c v a = record { digits = d; codes = c; value = v; angle = a }

pub marker_listed_lem : (m : Marker) → marker_listed (marker_code m) ≡ true
marker_listed_lem None = refl
marker_listed_lem Outer = refl
marker_listed_lem Middle = refl
marker_listed_lem Inner = refl

digit-kept : (n : ℕ) → leb (n % 10) 9 ≡ true
digit-kept n = le-leb (n % 10) 9 (omega arith)

-- the value in place i of the word's fields
pub at : {l m : List ℕ} (i : ℕ) → l ≡ m → get_or l i 0 ≡ get_or m i 0
at i e = ap (λ (l : List ℕ). get_or l i 0) e

decimal_status_read : (s : Status) (d : ℕ) → d ≡ decimal_code s → decimal_status d ≡ s
decimal_status_read s d e = ap decimal_status e ∙ decimal_status_lem s

-- a decimal word whose digits are those of a legal frequency
module _ (b : Band) (s : Status) (f w : ℕ)
    (e₀ : bits 15 18 w ≡ f % 10) (e₁ : bits 19 22 w ≡ f / 10 % 10) (e₂ : bits 23 26 w ≡ f / 100 % 10)
    (e₃ : bits 27 29 w ≡ tens_code b (f / 1000 % 10)) (e₄ : bits 30 31 w ≡ decimal_code s)
    (c : decimal_listed (decimal_code s) ≡ true) (v : legal_frequency b s f ≡ true) where
  frequency_read : frequency_in b w ≡ f
  frequency_read = rw (e₀, e₁, e₂, e₃) (frequency-back b f (legal_expressible b s f v))

  decimal_read : Kept (decimal b w)
  decimal_read =
      kept
      (rw (e₀, e₁, e₂) (ap₂ ◌&&◌ (digit-kept f) (ap₂ ◌&&◌ (digit-kept (f / 10)) (digit-kept (f / 100)))))
      (rw (e₃, e₄) (ap₂ ◌&&◌ c (tens_code_listed b f (legal_expressible b s f v))))
      (ap₂ (legal_frequency b) (decimal_status_read s (bits 30 31 w) e₄) frequency_read ∙ v)
      refl

-- a count of n bits comes back
count_read : (n : ℕ) (z : ℤ) (d : ℕ) → 0 < n → d ≡ complement n z → ltb (mag z) (2 ^ (n - 1)) ≡ true → signed n d ≡ z
count_read n z d p e v = ap (signed n) e ∙ signed-complement n z p (ltb-true (mag z) (2 ^ (n - 1)) v)

status_read : (s : Status) (d : ℕ) → d ≡ binary_code s → binary_status d ≡ s
status_read s d e = ap binary_status e ∙ binary_status_lem s

flag_read : (b : Bool) (d : ℕ) → d ≡ flag_bit b → eqb d 1 ≡ b
flag_read b d e = ap (λ (x : ℕ). eqb x 1) e ∙ flag-of b

pub forth : (b : Body) (byte source parity w : ℕ) → codes_listed b ≡ true → values_legal b ≡ true → Holds byte source b parity w
    → Kept (rules (kind_of b) w) × (body_of (kind_of b) w ≡ b)
forth (Body.VorAzimuth s m n) byte source parity w c v e = (
  kept refl (ap marker_listed (at 2 e) ∙ marker_listed_lem m) refl refl,
  λ i. Body.VorAzimuth (status_read s _ (at 4 e) i) ((ap marker_of (at 2 e) ∙ marker_of_lem m) i) (record { 0 = count_read 13 n.0 _ (lit< tt) (at 3 e) v i }),
)
forth (Body.VorFrequency s f) byte source parity w c v e = (
  decimal_read Band.Vor s f w (at 2 e) (at 3 e) (at 4 e) (at 5 e) (at 6 e) c v,
  ap₂ Body.VorFrequency (decimal_status_read s _ (at 6 e)) (frequency_read Band.Vor s f w (at 2 e) (at 3 e) (at 4 e) (at 5 e) (at 6 e) c v),
)
forth (Body.IlsCourse s i n) byte source parity w c v e = (
  kept refl refl refl refl,
  λ j. Body.IlsCourse (status_read s _ (at 4 e) j) (flag_read i _ (at 2 e) j) (record { 0 = count_read 13 n.0 _ (lit< tt) (at 3 e) v j }),
)
forth (Body.IlsGlide s i n) byte source parity w c v e = (
  kept refl refl refl refl,
  λ j. Body.IlsGlide (status_read s _ (at 4 e) j) (flag_read i _ (at 2 e) j) (record { 0 = count_read 13 n.0 _ (lit< tt) (at 3 e) v j }),
)
forth (Body.IlsFrequency s k f) byte source parity w c v e = (
  decimal_read Band.Ils s f w (at 3 e) (at 4 e) (at 5 e) (at 6 e) (at 7 e) c v,
  λ i.
      Body.IlsFrequency (decimal_status_read s _ (at 7 e) i) ((ap category_of (at 2 e) ∙ category_of_lem k) i)
      (frequency_read Band.Ils s f w (at 3 e) (at 4 e) (at 5 e) (at 6 e) (at 7 e) c v i),
)
forth (Body.MlsFrequency s f) byte source parity w c v e = (
  decimal_read Band.Mls s f w (at 2 e) (at 3 e) (at 4 e) (at 5 e) (at 6 e) c v,
  ap₂ Body.MlsFrequency (decimal_status_read s _ (at 6 e)) (frequency_read Band.Mls s f w (at 2 e) (at 3 e) (at 4 e) (at 5 e) (at 6 e) c v),
)
forth (Body.MlsAzimuthDeviation s i l n) byte source parity w c v e = (
  kept refl refl refl refl,
  λ j. Body.MlsAzimuthDeviation (status_read s _ (at 5 e) j) (flag_read i _ (at 2 e) j) (flag_read l _ (at 3 e) j) (record { 0 = count_read 16 n.0 _ (lit< tt) (at 4 e) v j }),
)
forth (Body.MlsGlideDeviation s i l n) byte source parity w c v e = (
  kept refl refl refl refl,
  λ j. Body.MlsGlideDeviation (status_read s _ (at 5 e) j) (flag_read i _ (at 2 e) j) (flag_read l _ (at 3 e) j) (record { 0 = count_read 16 n.0 _ (lit< tt) (at 4 e) v j }),
)
forth (Body.SelectedAzimuth s m d) byte source parity w c v e = (
  kept refl refl (ap (λ (x : ℕ). leb x 359) (at 3 e) ∙ v) refl,
  λ i. Body.SelectedAzimuth (status_read s _ (at 4 e) i) (flag_read m _ (at 2 e) i) (at 3 e i),
)
forth (Body.GreatestGlideAngle s t) byte source parity w c v e =
    let h : t < 2 ^ 8 = omega (arith, leb-true t 255 v) in (
      kept refl refl refl (ap odd (at 2 e) ∙ parity_odd 8 t (lit< tt) h),
      ap₂ Body.GreatestGlideAngle (status_read s _ (at 3 e))
          (sym (mod-mod-pow (w / 2 ^ 19) 1 8) ∙ ap (λ (x : ℕ). x % 2 ^ 8) (at 2 e) ∙ low (parity_bit t) 8 h),
    )
forth (Body.SelectedGlideAngle s m t) byte source parity w c v e =
    (kept refl refl refl refl, λ i. Body.SelectedGlideAngle (status_read s _ (at 4 e) i) (flag_read m _ (at 2 e) i) (at 3 e i))
forth (Body.Part1 n k) byte source parity w c v e =
    (kept refl (eq-eqb _ 0 (at 4 e)) refl refl, ap₂ Body.Part1 (at 2 e) (at 3 e))
forth (Body.Part2 k) byte source parity w c v e = (kept refl (eq-eqb _ 1 (at 3 e)) refl refl, ap Body.Part2 (at 2 e))
forth (Body.Part3 k) byte source parity w c v e = (kept refl (eq-eqb _ 2 (at 3 e)) refl refl, ap Body.Part3 (at 2 e))
forth (Body.Part4 g k) byte source parity w c v e =
    (kept refl (eq-eqb _ 3 (at 4 e)) refl refl, ap₂ Body.Part4 (flag_read g _ (at 2 e)) (at 3 e))
