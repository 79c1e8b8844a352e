-- What decoding reads from a word is what the word's bits hold, and nothing else is.
-- Assumes nothing.
use Rattle.std.specs.Prelude.{◌≡◌, refl, ◌↔◌, ◌≢◌, Bool, true, false, cond, [], ◌∷◌, ℕ, zero, suc, ◌+◌, ◌-◌, ◌*◌, ◌/◌, ◌%◌, ◌^◌, ◌<◌, ◌≤◌, eqb, ltb, pos, negsuc, neg_ℤ, ◌-ℤ◌}
use Rattle.std.proofs.Common.{sym, ap, ap₂, ◌∙◌, subst, inl, inr, mod-lt, add_comm, arith, lt-ltb, le-ltb, lit<, pow_pos, shr-shr}
use Rattle.std.proofs.Math.Nat.{mod-one}
use Rattle.std.proofs.lemmas.Nat.{mod-pow-add}
use Rattle.rounding.specs.Parts.{positive_add, negative-add, positive_neg, negative_neg, parts-equal}
use Rattle.bits.specs.Fields.{bits, digits}
use Rattle.statuses.specs.Statuses.{binary_code, binary_status, decimal_code, decimal_status, decimal_status_lem}
use Rattle.statuses.proofs.Statuses.{binary_code_lem, binary_status_lem}
use Rattle.codes.specs.Codes.{marker_code, marker_of, flag_bit, marker_of_lem, flag-bit, flag-of}
use Rattle.codes.specs.declared.Marker.{Marker}
use Rattle.statuses.specs.declared.Status.{Status}
use Rattle.frequencies.specs.Frequencies.{mls_tens, frequency_in}
use Rattle.frequencies.specs.declared.Band.{Band}
use Rattle.records.specs.Kinds.{kind_of}
use Rattle.records.specs.declared.Body.{Body}
use Rattle.labels.specs.Label.{label_of}
use Rattle.readings.specs.Meaning.{HasStatus}
use Rattle.demands.specs.Holds.{bit, Bits, sum, number, BinaryStatus, DecimalStatus, MarkerIs, Flag, below_tens, SentAs, MlsIs, HoldsBody, StatusIs}

pub bit-lt : (k w : ℕ) → bit k w < 2
bit-lt k w = mod-lt (w / 2 ^ (k - 1)) (lit< tt)

-- the bits weighed make the field
pub sum-digits : (o n w : ℕ) → sum (suc o) n w ≡ digits o n w
sum-digits o zero w = sym (mod-one (w / 2 ^ o))
sum-digits o (suc n) w =
    let place : (suc o + n) - 1 ≡ o + n = omega arith in
    let b : bit (suc o + n) w ≡ w / 2 ^ o / 2 ^ n % 2 = ap (λ (k : ℕ). w / 2 ^ k % 2) place ∙ sym (ap (λ (x : ℕ). x % 2) (shr-shr w o n)) in
    ap₂ (λ (x y : ℕ). x + y * 2 ^ n) (sum-digits o n w) b
    ∙ add_comm (digits o n w) (w / 2 ^ o / 2 ^ n % 2 * 2 ^ n)
    ∙ sym (mod-pow-add (w / 2 ^ o) 1 n)
    ∙ ap (λ (k : ℕ). digits o k w) (omega arith)

-- two's complement, over plain numbers
pub meant : (low b half full d : ℕ) → low < half → b < 2 → full ≡ half * 2 → d ≡ b * half + low
    → cond (ltb d half) (pos d) (negsuc (full - 1 - d)) ≡ pos low -ℤ pos (b * half)
meant low zero half full d hl hb f e =
    let z : zero * half ≡ 0 = omega arith in
    ap (λ (c : Bool). cond c (pos d) (negsuc (full - 1 - d))) (lt-ltb d half (omega arith))
    ∙ parts-equal (pos d) (pos low -ℤ pos (zero * half))
    (omega (arith, positive_add (pos low) (neg_ℤ (pos (zero * half))), negative-add (pos low) (neg_ℤ (pos (zero * half))), positive_neg (pos (zero * half)), negative_neg (pos (zero * half))))
meant low (suc zero) half full d hl hb f e =
    let y : ℕ = suc zero * half in
    let z : suc zero * half ≡ half = omega arith in
    ap (λ (c : Bool). cond c (pos d) (negsuc (full - 1 - d))) (le-ltb d half (omega arith))
    ∙ parts-equal (negsuc (full - 1 - d)) (pos low -ℤ pos (suc zero * half))
    (omega (arith, positive_add (pos low) (neg_ℤ (pos (suc zero * half))), negative-add (pos low) (neg_ℤ (pos (suc zero * half))), positive_neg (pos (suc zero * half)), negative_neg (pos (suc zero * half))))
meant low (suc (suc b)) half full d hl hb f e = absurd (omega arith)

pub field_lt : (o n w : ℕ) → digits o n w < 2 ^ n
field_lt o n w = mod-lt (w / 2 ^ o) (pow_pos n)

-- ---- codes of two and of three bits

pair : (p q x y c : ℕ) → p < 2 → q < 2 → x < 2 → y < 2 → 0 + x * 1 + y * 2 ≡ c → ((x ≡ p) × ((y ≡ q) × Unit {0})) ↔ (p + 2 * q ≡ c)
pair p q x y c hp hq hx hy e = (λ h. omega (arith, h.0, h.1.0), λ h. (omega arith, (omega arith, tt)))

triple : (p q r x y z c : ℕ) → p < 2 → q < 2 → r < 2 → x < 2 → y < 2 → z < 2 → 0 + x * 1 + y * 2 + z * 4 ≡ c
    → ((x ≡ p) × ((y ≡ q) × ((z ≡ r) × Unit {0}))) ↔ (p + 2 * q + 4 * r ≡ c)
triple p q r x y z c hp hq hr hx hy hz e =
    (λ h. omega (arith, h.0, h.1.0, h.1.1.0), λ h. (omega arith, (omega arith, (omega arith, tt))))

pub status_bits_lem : (p q w : ℕ) → p < 2 → q < 2 → Bits 30 (p ∷ q ∷ []) w ↔ (p + 2 * q ≡ bits 30 31 w)
status_bits_lem p q w hp hq = pair p q (bit 30 w) (bit 31 w) (bits 30 31 w) hp hq (bit-lt 30 w) (bit-lt 31 w) (sum-digits 29 2 w)

pub category_bits : (p q w : ℕ) → p < 2 → q < 2 → Bits 11 (p ∷ q ∷ []) w ↔ (p + 2 * q ≡ bits 11 12 w)
category_bits p q w hp hq = pair p q (bit 11 w) (bit 12 w) (bits 11 12 w) hp hq (bit-lt 11 w) (bit-lt 12 w) (sum-digits 10 2 w)

marker_bits : (p q r w : ℕ) → p < 2 → q < 2 → r < 2 → Bits 11 (p ∷ q ∷ r ∷ []) w ↔ (p + 2 * q + 4 * r ≡ bits 11 13 w)
marker_bits p q r w hp hq hr =
    triple p q r (bit 11 w) (bit 12 w) (bit 13 w) (bits 11 13 w) hp hq hr (bit-lt 11 w) (bit-lt 12 w) (bit-lt 13 w) (sum-digits 10 3 w)

binary_is : (s : Status) (w : ℕ) → BinaryStatus s w ↔ (binary_code s ≡ bits 30 31 w)
binary_is Status.Failure w = status_bits_lem 0 0 w (lit< tt) (lit< tt)
binary_is Status.NoData w = status_bits_lem 1 0 w (lit< tt) (lit< tt)
binary_is Status.Test w = status_bits_lem 0 1 w (lit< tt) (lit< tt)
binary_is Status.Ready w = status_bits_lem 1 1 w (lit< tt) (lit< tt)

pub decimal-only : (s : Status) (w : ℕ) → DecimalStatus s w → decimal_code s ≡ bits 30 31 w
decimal-only Status.Failure w h = absurd h
decimal-only Status.NoData w h = (status_bits_lem 1 0 w (lit< tt) (lit< tt)).0 h
decimal-only Status.Test w h = (status_bits_lem 0 1 w (lit< tt) (lit< tt)).0 h
decimal-only Status.Ready w h = (status_bits_lem 0 0 w (lit< tt) (lit< tt)).0 h

pub marker_is : (m : Marker) (w : ℕ) → MarkerIs m w ↔ (marker_code m ≡ bits 11 13 w)
marker_is Marker.None w = marker_bits 0 0 0 w (lit< tt) (lit< tt) (lit< tt)
marker_is Marker.Outer w = marker_bits 1 0 0 w (lit< tt) (lit< tt) (lit< tt)
marker_is Marker.Middle w = marker_bits 0 1 0 w (lit< tt) (lit< tt) (lit< tt)
marker_is Marker.Inner w = marker_bits 0 0 1 w (lit< tt) (lit< tt) (lit< tt)

flag_is : (k : ℕ) (b : Bool) (w : ℕ) → Flag k b w ↔ (flag_bit b ≡ bit k w)
flag_is k false w = (λ h. sym h, λ h. sym h)
flag_is k true w = (λ h. sym h, λ h. sym h)

-- ---- frequencies

vhf-sum : (h s u t : ℕ) → 10000 + 1000 * t + (100 * u + 10 * s + h) ≡ 10000 + (((t * 10 + u) * 10 + s) * 10 + h)
vhf-sum h s u t = omega arith

mls-sum : (h s u t : ℕ) → 500000 + 1000 * t + (100 * u + 10 * s + h) ≡ 500000 + (((t * 10 + u) * 10 + s) * 10 + h)
mls-sum h s u t = omega arith

below_tens_lem : (w : ℕ) → below_tens w ≡ 100 * bits 23 26 w + 10 * bits 19 22 w + bits 15 18 w
below_tens_lem w = λ i. 100 * sum-digits 22 4 w i + 10 * sum-digits 18 4 w i + sum-digits 14 4 w i

pub vhf_is : (w : ℕ) → 10000 + 1000 * number 27 29 w + below_tens w ≡ frequency_in Band.Vor w
vhf_is w =
    ap₂ (λ (t l : ℕ). 10000 + 1000 * t + l) (sum-digits 26 3 w) (below_tens_lem w)
    ∙ vhf-sum (bits 15 18 w) (bits 19 22 w) (bits 23 26 w) (bits 27 29 w)

mls_is : (w tens : ℕ) → tens ≡ mls_tens (bits 27 29 w) → 500000 + 1000 * tens + below_tens w ≡ frequency_in Band.Mls w
mls_is w tens e =
    ap₂ (λ (t l : ℕ). 500000 + 1000 * t + l) e (below_tens_lem w)
    ∙ mls-sum (bits 15 18 w) (bits 19 22 w) (bits 23 26 w) (mls_tens (bits 27 29 w))

itself : (c : ℕ) → 2 ≤ c → mls_tens c ≡ c
itself zero h = absurd (omega arith)
itself (suc zero) h = absurd (omega arith)
itself (suc (suc c)) h = refl

sent_tens : (t c : ℕ) → SentAs t c → t ≡ mls_tens c
sent_tens t c (inl h) = h.0 ∙ ap mls_tens (sym h.1)
sent_tens t c (inr (inl h)) = h.0 ∙ ap mls_tens (sym h.1)
sent_tens t c (inr (inr h)) =
    let l : 3 ≤ t = h.0 in
    let e : c ≡ t = h.2 in
    sym e ∙ sym (itself c (omega arith))

pub tens_sent : (c : ℕ) → c < 8 → c ≢ 2 → SentAs (mls_tens c) c
tens_sent zero h n = inl (refl, refl)
tens_sent (suc zero) h n = inr (inl (refl, refl))
tens_sent (suc (suc zero)) h n = absurd (n refl)
tens_sent (suc (suc (suc c))) h n = inr (inr (omega arith, omega arith, refl))

pub never_two : (t c : ℕ) → SentAs t c → c ≢ 2
never_two t c (inl h) e = let q : c ≡ 0 = h.1 in omega arith
never_two t c (inr (inl h)) e = let q : c ≡ 1 = h.1 in omega arith
never_two t c (inr (inr h)) e = let l : 3 ≤ t = h.0 in let q : c ≡ t = h.2 in omega arith

pub mls-only : (f w : ℕ) → MlsIs f w → f ≡ frequency_in Band.Mls w
mls-only f w h = h.2 ∙ mls_is w h.0 (sent_tens h.0 (number 27 29 w) h.1 ∙ ap mls_tens (sum-digits 26 3 w))

pub mls-holds : (w tens : ℕ) → SentAs tens (number 27 29 w) → MlsIs (frequency_in Band.Mls w) w
mls-holds w tens h = (tens, h, sym (mls_is w tens (sent_tens tens (number 27 29 w) h ∙ ap mls_tens (sum-digits 26 3 w))))

-- ---- each code is read as what it is the code of

pub binary_read : (s : Status) (w : ℕ) → BinaryStatus s w → s ≡ binary_status (bits 30 31 w)
binary_read s w h = sym (binary_status_lem s) ∙ ap binary_status ((binary_is s w).0 h)

pub decimal_read : (s : Status) (w : ℕ) → DecimalStatus s w → s ≡ decimal_status (bits 30 31 w)
decimal_read s w h = sym (decimal_status_lem s) ∙ ap decimal_status (decimal-only s w h)

pub flag_read : (k : ℕ) (b : Bool) (w : ℕ) → Flag k b w → b ≡ eqb (bit k w) 1
flag_read k b w h = sym (flag-of b) ∙ ap (λ (x : ℕ). eqb x 1) ((flag_is k b w).0 h)

pub marker_read : (m : Marker) (w : ℕ) → MarkerIs m w → m ≡ marker_of (bits 11 13 w)
marker_read m w h = sym (marker_of_lem m) ∙ ap marker_of ((marker_is m w).0 h)

-- ---- what decoding reads is held

pub binary_holds : (w : ℕ) → BinaryStatus (binary_status (bits 30 31 w)) w
binary_holds w = (binary_is (binary_status (bits 30 31 w)) w).1 (binary_code_lem (bits 30 31 w) (field_lt 29 2 w))

pub decimal-holds : (w : ℕ) → (s : Status) × DecimalStatus s w → DecimalStatus (decimal_status (bits 30 31 w)) w
decimal-holds w h = subst (λ (s : Status). DecimalStatus s w) (decimal_read h.0 w h.1) h.1

pub marker_holds : (w : ℕ) → (m : Marker) × MarkerIs m w → MarkerIs (marker_of (bits 11 13 w)) w
marker_holds w h = subst (λ (m : Marker). MarkerIs m w) (marker_read h.0 w h.1) h.1

pub flag-holds : (k w : ℕ) → Flag k (eqb (bit k w) 1) w
flag-holds k w = (flag_is k (eqb (bit k w) 1) w).1 (flag-bit (bit k w) (bit-lt k w))

-- ---- and nothing else is

-- ---- the label and the source

label_sum : (a b c d e f g h : ℕ) → 0 + a * 128 + b * 64 + c * 32 + d * 16 + e * 8 + f * 4 + g * 2 + h * 1 ≡ 128 * a + 64 * b + 32 * c + 16 * d + 8 * e + 4 * f + 2 * g + h
label_sum a b c d e f g h = omega arith

pub label_bits : (w : ℕ) → label_of w ≡ 128 * bit 1 w + 64 * bit 2 w + 32 * bit 3 w + 16 * bit 4 w + 8 * bit 5 w + 4 * bit 6 w + 2 * bit 7 w + bit 8 w
label_bits w = label_sum (bit 1 w) (bit 2 w) (bit 3 w) (bit 4 w) (bit 5 w) (bit 6 w) (bit 7 w) (bit 8 w)

source_sum : (a b : ℕ) → 0 + a * 1 + b * 2 ≡ a + 2 * b
source_sum a b = omega arith

pub source_bits : (w : ℕ) → bits 9 10 w ≡ bit 9 w + 2 * bit 10 w
source_bits w = sym (sum-digits 8 2 w) ∙ source_sum (bit 9 w) (bit 10 w)

-- ---- the status that a body has is the one that the word's bits say

binary_says : (s t : Status) (w : ℕ) → BinaryStatus s w → (s ≡ t) ↔ BinaryStatus t w
binary_says s t w h = (λ e. subst (λ (x : Status). BinaryStatus x w) e h, λ g. binary_read s w h ∙ sym (binary_read t w g))

decimal-says : (s t : Status) (w : ℕ) → DecimalStatus s w → (s ≡ t) ↔ DecimalStatus t w
decimal-says s t w h = (λ e. subst (λ (x : Status). DecimalStatus x w) e h, λ g. decimal_read s w h ∙ sym (decimal_read t w g))

no_status : ⊥ ↔ ⊥
no_status = (λ h. h, λ h. h)

pub status_says : (b : Body) (w : ℕ) → HoldsBody b w → (t : Status) → HasStatus b t ↔ StatusIs (kind_of b) t w
status_says (Body.VorAzimuth s m n) w h t = binary_says s t w h.0
status_says (Body.VorFrequency s f) w h t = decimal-says s t w h.0
status_says (Body.IlsCourse s g n) w h t = binary_says s t w h.0
status_says (Body.IlsGlide s g n) w h t = binary_says s t w h.0
status_says (Body.IlsFrequency s c f) w h t = decimal-says s t w h.0
status_says (Body.MlsFrequency s f) w h t = decimal-says s t w h.0
status_says (Body.MlsAzimuthDeviation s g c n) w h t = binary_says s t w h.0
status_says (Body.MlsGlideDeviation s g c n) w h t = binary_says s t w h.0
status_says (Body.SelectedAzimuth s m d) w h t = binary_says s t w h.0
status_says (Body.GreatestGlideAngle s a) w h t = binary_says s t w h.0
status_says (Body.SelectedGlideAngle s m a) w h t = binary_says s t w h.0
status_says (Body.Part1 n c) w h t = no_status
status_says (Body.Part2 c) w h t = no_status
status_says (Body.Part3 c) w h t = no_status
status_says (Body.Part4 g c) w h t = no_status
