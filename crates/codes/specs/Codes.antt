-- The codes of markers, categories and flags, and what each code means. The lowest bit of a field is its first in document 01's print:
-- "10" in bits 11, 12 is the number 1. A number outside its list is refused with 4 before anyone asks what it means; what it is taken for here is told last.
-- Assumes nothing.
use Rattle.std.specs.Prelude.{◌≡◌, refl, Bool, true, false, ◌||◌, ℕ, zero, suc, ◌≤◌, ◌<◌, eqb}
use Rattle.std.proofs.Common.{sym, arith, eqb-true, ne_eqb, lit<}
use Rattle.codes.specs.declared.Marker.{Marker}
use Rattle.codes.specs.declared.Marker.TheVariants.{None, Outer, Middle, Inner}
use Rattle.codes.specs.declared.Category.{Category}
use Rattle.codes.specs.declared.Category.TheVariants.{NotStated, I, II, III}

-- ---- markers, bits 11, 12, 13: 000 none, 100 outer, 010 middle, 001 inner; nothing else

abbrev pub marker_code : Marker → ℕ
marker_code None = 0
marker_code Outer = 1
marker_code Middle = 2
marker_code Inner = 4

abbrev pub marker_of : ℕ → Marker
marker_of zero = None
marker_of (suc zero) = Outer
marker_of (suc (suc zero)) = Middle
marker_of (suc (suc (suc n))) = Inner

abbrev pub marker_listed : ℕ → Bool
marker_listed c = eqb c 0 || (eqb c 1 || (eqb c 2 || eqb c 4))

-- ---- categories, bits 11, 12: 00 not stated, 10 I, 01 II, 11 III

abbrev pub category_code : Category → ℕ
category_code NotStated = 0
category_code I = 1
category_code II = 2
category_code III = 3

abbrev pub category_of : ℕ → Category
category_of zero = NotStated
category_of (suc zero) = I
category_of (suc (suc zero)) = II
category_of (suc (suc (suc n))) = III

-- ---- a flag is one bit

abbrev pub flag_bit : Bool → ℕ
flag_bit false = 0
flag_bit true = 1

-- ---- each code means what it is the code of, and the other way round

pub marker_code_lem : (c : ℕ) → marker_listed c ≡ true → marker_code (marker_of c) ≡ c
marker_code_lem zero h = refl
marker_code_lem (suc zero) h = refl
marker_code_lem (suc (suc zero)) h = refl
marker_code_lem (suc (suc (suc n))) h =
    let x : ℕ = suc (suc (suc n)) in
    let e : eqb x 4 ≡ true =
    simp (ne_eqb x 0 (λ q. omega arith), ne_eqb x 1 (λ q. omega arith), ne_eqb x 2 (λ q. omega arith)) at h in
    sym (eqb-true x 4 e)

pub marker_of_lem : (m : Marker) → marker_of (marker_code m) ≡ m
marker_of_lem None = refl
marker_of_lem Outer = refl
marker_of_lem Middle = refl
marker_of_lem Inner = refl

pub category_code_lem : (c : ℕ) → c < 4 → category_code (category_of c) ≡ c
category_code_lem zero h = refl
category_code_lem (suc zero) h = refl
category_code_lem (suc (suc zero)) h = refl
category_code_lem (suc (suc (suc n))) h = omega arith

pub category_of_lem : (k : Category) → category_of (category_code k) ≡ k
category_of_lem NotStated = refl
category_of_lem I = refl
category_of_lem II = refl
category_of_lem III = refl

pub flag-bit : (b : ℕ) → b < 2 → flag_bit (eqb b 1) ≡ b
flag-bit zero h = refl
flag-bit (suc zero) h = refl
flag-bit (suc (suc n)) h = absurd (omega arith)

pub flag-of : (b : Bool) → eqb (flag_bit b) 1 ≡ b
flag-of false = refl
flag-of true = refl

-- ---- a number outside its list: every function answers for every number, and these are the answers, by no rule of document 01

abbrev pub unlisted_marker : Marker
unlisted_marker = Inner

abbrev pub unlisted_category : Category
unlisted_category = III

-- bits 11 and 12 hold no such number
pub category_unlisted : (c : ℕ) → 4 ≤ c → category_of c ≡ unlisted_category
category_unlisted zero h = absurd (omega arith)
category_unlisted (suc zero) h = absurd (omega arith)
category_unlisted (suc (suc zero)) h = absurd (omega arith)
category_unlisted (suc (suc (suc n))) h = refl

-- ---- every code fits its field

pub marker_lt : (m : Marker) → marker_code m < 8
marker_lt None = lit< tt
marker_lt Outer = lit< tt
marker_lt Middle = lit< tt
marker_lt Inner = lit< tt

pub category_lt : (k : Category) → category_code k < 4
category_lt NotStated = lit< tt
category_lt I = lit< tt
category_lt II = lit< tt
category_lt III = lit< tt

pub flag-lt : (b : Bool) → flag_bit b < 2
flag-lt false = lit< tt
flag-lt true = lit< tt
