-- The numbers of statuses, markers, categories and flags are in their lists, and each gives its code back; so do the places of the kinds.
-- Assumes nothing.
use Rattle.std.specs.Prelude.{◌≡◌, refl, Bool, true, false, cond, List, [], ◌∷◌, ℕ, zero, suc, ◌+◌, ◌≤◌, eqb, leb, Some}
use Rattle.std.proofs.Common.{sym, ap, ◌∙◌, arith, eqb-true, leb-true}
use Rattle.bits.specs.Laws.{both_true}
use Rattle.codes.specs.Codes.{category_code, category_of, category_code_lem, flag_bit, flag-bit}
use Rattle.codes.specs.declared.Category.{Category}
use Rattle.records.specs.declared.Kind.{Kind}
use Rattle.statuses.specs.declared.Status.{Status}
use Rattle.records.specs.All.{kinds, agree, place_of}
use Rattle.flat_records.specs.Numbers.{status_number}
use Rattle.flat_fields.specs.Fields.{status_of, status_listed, is_flag, kind_in, kind_at}

-- ---- a code is in its list

pub status_listed_lem : (s : Status) → status_listed (status_number s) ≡ true
status_listed_lem Status.Failure = refl
status_listed_lem Status.NoData = refl
status_listed_lem Status.Test = refl
status_listed_lem Status.Ready = refl

pub category_listed : (k : Category) → leb (category_code k) 3 ≡ true
category_listed Category.NotStated = refl
category_listed Category.I = refl
category_listed Category.II = refl
category_listed Category.III = refl

pub flag-fits : (b : Bool) → is_flag (flag_bit b) ≡ true
flag-fits false = refl
flag-fits true = refl

-- ---- a status gives its number, and the number the status

pub status_of_lem : (s : Status) → status_of (status_number s) ≡ s
status_of_lem Status.Failure = refl
status_of_lem Status.NoData = refl
status_of_lem Status.Test = refl
status_of_lem Status.Ready = refl

status_at : (n : ℕ) → 1 ≤ n → n ≤ 4 → status_number (status_of n) ≡ n
status_at zero h l = absurd (omega arith)
status_at (suc zero) h l = refl
status_at (suc (suc zero)) h l = refl
status_at (suc (suc (suc zero))) h l = refl
status_at (suc (suc (suc (suc zero)))) h l = refl
status_at (suc (suc (suc (suc (suc n))))) h l = absurd (omega arith)

pub status_number_lem : (n : ℕ) → status_listed n ≡ true → status_number (status_of n) ≡ n
status_number_lem n e =
    let b = both_true (leb 1 n) (leb n 4) e in
    status_at n (leb-true 1 n b.0) (leb-true n 4 b.1)

-- ---- a listed number gives its code back

pub category_number : (n : ℕ) → leb n 3 ≡ true → category_code (category_of n) ≡ n
category_number n e = category_code_lem n (omega (arith, leb-true n 3 e))

pub flag-number : (n : ℕ) → is_flag n ≡ true → flag_bit (eqb n 1) ≡ n
flag-number n e = flag-bit n (omega (arith, leb-true n 1 e))

-- ---- a place of document 01's table, counted from 1, gives its kind, and only that place does

pub kind_at_lem : (k : Kind) → kind_at (place_of k) ≡ Some k
kind_at_lem = agree (λ k. kind_at (place_of k)) Some refl

-- a run of the table, at its places
abbrev Placed : List Kind → ℕ → Type 0
Placed [] place = Unit
Placed (k ∷ ks) place = (place_of k ≡ place) × Placed ks (place + 1)

place_in : (ks : List Kind) (place n : ℕ) (k : Kind) → Placed ks place → kind_in ks place n ≡ Some k → place_of k ≡ n
place_in [] place n k p e = let z : ◌≡◌ {A = ℕ} 0 1 = cc in absurd (omega arith)
place_in (j ∷ ks) place n k p e = by (eqb n place) refl e (place_in ks (place + 1) n k p.1)
  where
    by : (b : Bool) → eqb n place ≡ b → cond b (Some j) (kind_in ks (place + 1) n) ≡ Some k
        → (kind_in ks (place + 1) n ≡ Some k → place_of k ≡ n) → place_of k ≡ n
    by true t q rest = let i : j ≡ k = cc in ap place_of (sym i) ∙ p.0 ∙ sym (eqb-true n place t)
    by false t q rest = rest q

pub place_of_lem : (n : ℕ) (k : Kind) → kind_at n ≡ Some k → place_of k ≡ n
place_of_lem n k e =
    place_in kinds 1 n k
    (refl, (refl, (refl, (refl, (refl, (refl, (refl, (refl, (refl, (refl, (refl, (refl, (refl, (refl, (refl, tt)))))))))))))))
    e
