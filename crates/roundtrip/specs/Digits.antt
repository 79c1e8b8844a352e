-- A frequency and its decimal digits give each other back.
-- Assumes nothing.
use Rattle.std.specs.Prelude.{◌≡◌, refl, Bool, true, false, not, ◌&&◌, [], ◌∷◌, ℕ, zero, suc, ◌+◌, ◌-◌, ◌*◌, ◌/◌, ◌%◌, ◌<◌, ◌≤◌, leb, ltb}
use Rattle.std.proofs.Common.{sym, ap, ap₂, ◌∙◌, true≢false, div-add-mod', arith, le-leb, ne_eqb, ltb-true, ltb-false}
use Rattle.std.proofs.Math.Nat.{div-div-eq-div-mul}
use Rattle.std.proofs.Math.Arith.{digits_div, digits_mod}
use Rattle.frequencies.specs.Frequencies.{mls_tens, tens_of, tens_listed, tens_code, frequency_of, expressible, vhf_range, mls_range}
use Rattle.frequencies.specs.declared.Band.{Band}
use Rattle.frequencies.specs.declared.Band.TheVariants.{Vor, Ils, Mls}
use Rattle.encode.specs.Fields.{decimal_digits}

-- ---- the tens digit of a code, and back

-- a tens code of 3 bits that is listed is the code of its digit, which is at most 9
pub code_of_tens : (b : Band) (c : ℕ) → c < 8 → tens_listed b c ≡ true → (tens_code b (tens_of b c) ≡ c) × (tens_of b c ≤ 9)
code_of_tens Vor c h t = (refl, omega arith)
code_of_tens Ils c h t = (refl, omega arith)
code_of_tens Mls zero h t = (refl, omega arith)
code_of_tens Mls (suc zero) h t = (refl, omega arith)
code_of_tens Mls (suc (suc c)) h t = (omega arith, omega arith)

-- ---- digits to a frequency and back

-- the last digit is taken off
drop-last : (q h : ℕ) → h ≤ 9 → (q * 10 + h) / 10 ≡ q
drop-last q h k = digits_div q (omega arith)

last : (q h : ℕ) → h ≤ 9 → (q * 10 + h) % 10 ≡ h
last q h k = digits_mod q (omega arith)

abbrev numeral : ℕ → ℕ → ℕ → ℕ → ℕ → ℕ
numeral q t u s h = (((q * 10 + t) * 10 + u) * 10 + s) * 10 + h

-- each of the last four digits of a number is read off again
four : (q t u s h : ℕ) → t ≤ 9 → u ≤ 9 → s ≤ 9 → h ≤ 9
    → (numeral q t u s h % 10 ≡ h) × (numeral q t u s h / 10 % 10 ≡ s) × (numeral q t u s h / 100 % 10 ≡ u) × (numeral q t u s h / 1000 % 10 ≡ t)
four q t u s h ht hu hs hh =
    let f : ℕ = numeral q t u s h in
    let g : ℕ = ((q * 10 + t) * 10 + u) * 10 + s in
    let e₁ : f / 10 ≡ g = drop-last g h hh in
    let e₂ : f / 100 ≡ (q * 10 + t) * 10 + u =
    sym (div-div-eq-div-mul f 10 10) ∙ ap (λ (x : ℕ). x / 10) e₁ ∙ drop-last ((q * 10 + t) * 10 + u) s hs in
    let e₃ : f / 1000 ≡ q * 10 + t =
    sym (div-div-eq-div-mul f 100 10) ∙ ap (λ (x : ℕ). x / 10) e₂ ∙ drop-last (q * 10 + t) u hu in (
      last g h hh,
      ap (λ (x : ℕ). x % 10) e₁ ∙ last ((q * 10 + t) * 10 + u) s hs,
      ap (λ (x : ℕ). x % 10) e₂ ∙ last (q * 10 + t) u hu,
      ap (λ (x : ℕ). x % 10) e₃ ∙ last q t ht,
    )

-- a frequency as its offset's leading digits and four more
abbrev leading : Band → ℕ
leading Vor = 1
leading Ils = 1
leading Mls = 50

as_numeral : (b : Band) (h s u c : ℕ) → frequency_of b h s u c ≡ numeral (leading b) (tens_of b c) u s h
as_numeral Vor h s u c = omega arith
as_numeral Ils h s u c = omega arith
as_numeral Mls h s u c = omega arith

-- the digits of the frequency that digits give are those digits
pub digits-back : (b : Band) (h s u c : ℕ) → h ≤ 9 → s ≤ 9 → u ≤ 9 → c < 8 → tens_listed b c ≡ true
    → decimal_digits b (frequency_of b h s u c) ≡ h ∷ s ∷ u ∷ c ∷ []
digits-back b h s u c hh hs hu hc t =
    let k = code_of_tens b c hc t in
    let d = four (leading b) (tens_of b c) u s h k.1 hu hs hh in
    ap (decimal_digits b) (as_numeral b h s u c)
    ∙ ap₂ ◌∷◌ d.0 (ap₂ ◌∷◌ d.1 (ap₂ ◌∷◌ d.2 (ap (λ (x : ℕ). x ∷ []) (ap (tens_code b) d.3 ∙ k.0))))

-- and that frequency is one that the digits can say
within : (l h f : ℕ) → l ≤ f → f ≤ h → (leb l f && leb f h) ≡ true
within l h f a b = ap₂ ◌&&◌ (le-leb l f a) (le-leb f h b)

pub digits-say : (b : Band) (h s u c : ℕ) → h ≤ 9 → s ≤ 9 → u ≤ 9 → c < 8 → tens_listed b c ≡ true → expressible b (frequency_of b h s u c) ≡ true
digits-say Vor h s u c hh hs hu hc t = within 10000 17999 (frequency_of Vor h s u c) (omega arith) (omega arith)
digits-say Ils h s u c hh hs hu hc t = within 10000 17999 (frequency_of Ils h s u c) (omega arith) (omega arith)
digits-say Mls h s u zero hh hs hu hc t = within 503000 509999 (frequency_of Mls h s u zero) (omega arith) (omega arith)
digits-say Mls h s u (suc zero) hh hs hu hc t = within 503000 509999 (frequency_of Mls h s u (suc zero)) (omega arith) (omega arith)
digits-say Mls h s u (suc (suc zero)) hh hs hu hc t = absurd (true≢false (sym t))
digits-say Mls h s u (suc (suc (suc c))) hh hs hu hc t = within 503000 509999 (frequency_of Mls h s u (suc (suc (suc c)))) (omega arith) (omega arith)

-- ---- a frequency to digits and back

-- a number from its last three digits and what stands above them
rebuilt : (f : ℕ) → ((f / 1000 * 10 + f / 100 % 10) * 10 + f / 10 % 10) * 10 + f % 10 ≡ f
rebuilt f =
    let a : f / 100 / 10 * 10 + f / 100 % 10 ≡ f / 100 = div-add-mod' (f / 100) 10 in
    let b : f / 10 / 10 * 10 + f / 10 % 10 ≡ f / 10 = div-add-mod' (f / 10) 10 in
    let c : f / 10 * 10 + f % 10 ≡ f = div-add-mod' f 10 in
    ap (λ (x : ℕ). ((x * 10 + f / 100 % 10) * 10 + f / 10 % 10) * 10 + f % 10) (sym (div-div-eq-div-mul f 100 10))
    ∙ ap (λ (x : ℕ). (x * 10 + f / 10 % 10) * 10 + f % 10) (a ∙ sym (div-div-eq-div-mul f 10 10))
    ∙ ap (λ (x : ℕ). x * 10 + f % 10) b ∙ c

-- MLS tens 3 to 9 come back from their codes, and none has the code 2
from_two : (c : ℕ) → 2 ≤ c → mls_tens c ≡ c
from_two zero h = absurd (omega arith)
from_two (suc zero) h = absurd (omega arith)
from_two (suc (suc c)) h = refl

from_eight : (k : ℕ) → k < 2 → mls_tens ((8 + k) % 8) ≡ 8 + k
from_eight zero h = refl
from_eight (suc zero) h = refl
from_eight (suc (suc k)) h = absurd (omega arith)

mls_tens_lem : (d : ℕ) → 3 ≤ d → d ≤ 9 → mls_tens (d % 8) ≡ d
mls_tens_lem d l h = by (ltb d 8) refl
  where
    by : (low : Bool) → ltb d 8 ≡ low → mls_tens (d % 8) ≡ d
    by true e =
        let k : d < 8 = ltb-true d 8 e in
        let m : d % 8 ≡ d = omega arith in
        ap mls_tens m ∙ from_two d (omega arith)
    by false e =
        let k : 8 ≤ d = ltb-false d 8 e in
        let m : 8 + (d - 8) ≡ d = omega arith in
        ap (λ (x : ℕ). mls_tens (x % 8)) (sym m) ∙ from_eight (d - 8) (omega arith) ∙ m

not_two : (d : ℕ) → 3 ≤ d → d ≤ 9 → d % 8 ≡ 2 → ⊥
not_two d l h e = omega arith

vhf_top : (f : ℕ) → (10000 ≤ f) × (f ≤ 17999) → 10 + f / 1000 % 10 ≡ f / 1000
vhf_top f r = omega arith

mls_top : (f : ℕ) → 503000 ≤ f → f ≤ 509999 → (500 + f / 1000 % 10 ≡ f / 1000) × (3 ≤ f / 1000 % 10)
mls_top f l h = (omega arith, omega arith)

-- the digits above the tens are the offset's, and the tens digit of a frequency that the digits can say comes back from its code
top : (b : Band) (f : ℕ) → expressible b f ≡ true → leading b * 10 + tens_of b (tens_code b (f / 1000 % 10)) ≡ f / 1000
top Vor f e = vhf_top f (vhf_range f e)
top Ils f e = vhf_top f (vhf_range f e)
top Mls f e =
    let r = mls_range f e in
    let t = mls_top f r.0 r.1 in
    ap (λ (x : ℕ). 500 + x) (mls_tens_lem (f / 1000 % 10) t.1 (omega arith)) ∙ t.0

pub frequency-back : (b : Band) (f : ℕ) → expressible b f ≡ true
    → frequency_of b (f % 10) (f / 10 % 10) (f / 100 % 10) (tens_code b (f / 1000 % 10)) ≡ f
frequency-back b f e =
    as_numeral b (f % 10) (f / 10 % 10) (f / 100 % 10) (tens_code b (f / 1000 % 10))
    ∙ ap (λ (x : ℕ). ((x * 10 + f / 100 % 10) * 10 + f / 10 % 10) * 10 + f % 10) (top b f e) ∙ rebuilt f

-- the code of its tens is listed
pub tens_code_listed : (b : Band) (f : ℕ) → expressible b f ≡ true → tens_listed b (tens_code b (f / 1000 % 10)) ≡ true
tens_code_listed Vor f e = refl
tens_code_listed Ils f e = refl
tens_code_listed Mls f e =
    let r = mls_range f e in
    let t = mls_top f r.0 r.1 in
    ap not (ne_eqb (f / 1000 % 10 % 8) 2 (not_two (f / 1000 % 10) t.1 (omega arith)))
