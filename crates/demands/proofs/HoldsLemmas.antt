-- What decoding reads from a word is what the word's bits hold, and nothing else is.
-- Assumes nothing.
use Rattle.std.specs.Prelude.{◌≡◌, refl, ◌↔◌, ℕ, ◌*◌}
use Rattle.std.proofs.Common.{sym, ap, ap₂, ◌∙◌, add_comm, lit<}
use Rattle.bits.specs.Fields.{bits}
use Rattle.bits.specs.Complement as complement
use Rattle.codes.specs.Codes.{category_code, category_of, category_code_lem, category_of_lem}
use Rattle.codes.specs.declared.Category.{Category}
use Rattle.records.specs.Kinds.{kind_of}
use Rattle.records.specs.declared.Body.{Body}
use Rattle.records.specs.declared.Kind.{Kind}
use Rattle.decode.specs.Rules.{body_of}
use Rattle.demands.specs.Holds.{bit, number, signed, CategoryIs, HoldsBody}
use Rattle.demands.specs.Allowed.{asks}
use Rattle.demands.specs.HoldsLemmas.{bit-lt, sum-digits, meant, field_lt, category_bits, vhf_is, mls-only, mls-holds, binary_read, decimal_read, flag_read, marker_read, binary_holds, decimal-holds, marker_holds, flag-holds}

-- a signed field
signed13 : (w : ℕ) → complement.signed 13 (bits 17 29 w) ≡ signed 17 29 w
signed13 w = meant (number 17 28 w) (bit 29 w) 4096 8192 (bits 17 29 w) (rw (sum-digits 16 12 w) (field_lt 16 12 w)) (bit-lt 29 w) refl (sym (sum-digits 16 13 w) ∙ add_comm (number 17 28 w) (bit 29 w * 4096))

signed16 : (w : ℕ) → complement.signed 16 (bits 14 29 w) ≡ signed 14 29 w
signed16 w = meant (number 14 28 w) (bit 29 w) 32768 65536 (bits 14 29 w) (rw (sum-digits 13 15 w) (field_lt 13 15 w)) (bit-lt 29 w) refl (sym (sum-digits 13 16 w) ∙ add_comm (number 14 28 w) (bit 29 w * 32768))

category_is : (c : Category) (w : ℕ) → CategoryIs c w ↔ (category_code c ≡ bits 11 12 w)
category_is Category.NotStated w = category_bits 0 0 w (lit< tt) (lit< tt)
category_is Category.I w = category_bits 1 0 w (lit< tt) (lit< tt)
category_is Category.II w = category_bits 0 1 w (lit< tt) (lit< tt)
category_is Category.III w = category_bits 1 1 w (lit< tt) (lit< tt)

category_read : (c : Category) (w : ℕ) → CategoryIs c w → c ≡ category_of (bits 11 12 w)
category_read c w h = sym (category_of_lem c) ∙ ap category_of ((category_is c w).0 h)

category_holds : (w : ℕ) → CategoryIs (category_of (bits 11 12 w)) w
category_holds w = (category_is (category_of (bits 11 12 w)) w).1 (category_code_lem (bits 11 12 w) (field_lt 10 2 w))

pub holds : (k : Kind) (w : ℕ) → (asks k w).codes → HoldsBody (body_of k w) w
holds Kind.VorAzimuth w c = (binary_holds w, marker_holds w c, signed13 w)
holds Kind.VorFrequency w c = (decimal-holds w c, sym (vhf_is w))
holds Kind.IlsCourse w c = (binary_holds w, flag-holds 11 w, signed13 w)
holds Kind.IlsGlide w c = (binary_holds w, flag-holds 11 w, signed13 w)
holds Kind.IlsFrequency w c = (decimal-holds w c, category_holds w, sym (vhf_is w))
holds Kind.MlsFrequency w c = (decimal-holds w c.0, mls-holds w c.1.0 c.1.1)
holds Kind.MlsAzimuthDeviation w c = (binary_holds w, flag-holds 11 w, flag-holds 12 w, signed16 w)
holds Kind.MlsGlideDeviation w c = (binary_holds w, flag-holds 11 w, flag-holds 12 w, signed16 w)
holds Kind.SelectedAzimuth w c = (binary_holds w, flag-holds 19 w, sym (sum-digits 19 9 w))
holds Kind.GreatestGlideAngle w c = (binary_holds w, sym (sum-digits 19 8 w))
holds Kind.SelectedGlideAngle w c = (binary_holds w, flag-holds 19 w, sym (sum-digits 19 9 w))
holds Kind.Part1 w c = (c.0, c.1, sym (sum-digits 13 8 w), sym (sum-digits 21 8 w))
holds Kind.Part2 w c = (c.0, c.1, sym (sum-digits 13 16 w))
holds Kind.Part3 w c = (c.0, c.1, sym (sum-digits 13 16 w))
holds Kind.Part4 w c = (c.0, c.1, flag-holds 11 w, sym (sum-digits 13 16 w))

pub only : (b : Body) (w : ℕ) → HoldsBody b w → b ≡ body_of (kind_of b) w
only (Body.VorAzimuth s m n) w h = λ i. Body.VorAzimuth (binary_read s w h.0 i) (marker_read m w h.1 i) (record { 0 = (h.2 ∙ sym (signed13 w)) i })
only (Body.VorFrequency s f) w h = ap₂ Body.VorFrequency (decimal_read s w h.0) (h.1 ∙ vhf_is w)
only (Body.IlsCourse s g n) w h = λ i. Body.IlsCourse (binary_read s w h.0 i) (flag_read 11 g w h.1 i) (record { 0 = (h.2 ∙ sym (signed13 w)) i })
only (Body.IlsGlide s g n) w h = λ i. Body.IlsGlide (binary_read s w h.0 i) (flag_read 11 g w h.1 i) (record { 0 = (h.2 ∙ sym (signed13 w)) i })
only (Body.IlsFrequency s c f) w h = λ i. Body.IlsFrequency (decimal_read s w h.0 i) (category_read c w h.1 i) ((h.2 ∙ vhf_is w) i)
only (Body.MlsFrequency s f) w h = ap₂ Body.MlsFrequency (decimal_read s w h.0) (mls-only f w h.1)
only (Body.MlsAzimuthDeviation s g c n) w h = λ i. Body.MlsAzimuthDeviation (binary_read s w h.0 i) (flag_read 11 g w h.1 i) (flag_read 12 c w h.2 i) (record { 0 = (h.3 ∙ sym (signed16 w)) i })
only (Body.MlsGlideDeviation s g c n) w h = λ i. Body.MlsGlideDeviation (binary_read s w h.0 i) (flag_read 11 g w h.1 i) (flag_read 12 c w h.2 i) (record { 0 = (h.3 ∙ sym (signed16 w)) i })
only (Body.SelectedAzimuth s m d) w h = λ i. Body.SelectedAzimuth (binary_read s w h.0 i) (flag_read 19 m w h.1 i) ((h.2 ∙ sum-digits 19 9 w) i)
only (Body.GreatestGlideAngle s t) w h = ap₂ Body.GreatestGlideAngle (binary_read s w h.0) (h.1 ∙ sum-digits 19 8 w)
only (Body.SelectedGlideAngle s m t) w h = λ i. Body.SelectedGlideAngle (binary_read s w h.0 i) (flag_read 19 m w h.1 i) ((h.2 ∙ sum-digits 19 9 w) i)
only (Body.Part1 n c) w h = ap₂ Body.Part1 (h.2 ∙ sum-digits 13 8 w) (h.3 ∙ sum-digits 21 8 w)
only (Body.Part2 c) w h = ap Body.Part2 (h.2 ∙ sum-digits 13 16 w)
only (Body.Part3 c) w h = ap Body.Part3 (h.2 ∙ sum-digits 13 16 w)
only (Body.Part4 g c) w h = ap₂ Body.Part4 (flag_read 11 g w h.2) (h.3 ∙ sum-digits 13 16 w)
