-- A number of 64 bits by its sign and its size: every size up to 2 ^ 63 - 1, and 2 ^ 63 below 0 only.
use Rattle.std.specs.Prelude.{◌≡◌, ◌⊎◌, ◌↔◌, Bool, cond, ℕ, ◌-◌, ◌≤◌, ◌<◌, ℤ, Some, None}
use Rattle.std.proofs.Common.{sym, ap, subst, ◌∙◌, inl, inr, arith, le-leb}
use Rattle.std.proofs.lemmas.Bool.{lt-leb}
use Rattle.rounding.specs.Parts.{le-or-lt, with_sign}
use Rattle.signed_numbers.specs.Signed.{greatest, Fits, signed_of, fits, within}

pub signed-number : (negative : Bool) (size : ℕ) → size ≤ greatest negative → signed_of negative size ≡ Some (with_sign negative size)
unfolding signed_of
signed-number negative size h = ap (λ (b : Bool). cond b (Some (with_sign negative size)) None) (le-leb size (greatest negative) h)

pub signed_large : (negative : Bool) (size : ℕ) → greatest negative < size → signed_of negative size ≡ None
unfolding signed_of
signed_large negative size h = ap (λ (b : Bool). cond b (Some (with_sign negative size)) None) (lt-leb size (greatest negative) h)

-- the answer is a number exactly where it is the number of that sign and size, and 64 bits hold it
pub signed_exactly : (negative : Bool) (size : ℕ) (z : ℤ) → (signed_of negative size ≡ Some z) ↔ ((z ≡ with_sign negative size) × Fits z)
signed_exactly negative size z = (there (le-or-lt size (greatest negative)), back)
  where
    there : (size ≤ greatest negative) ⊎ (greatest negative < size) → signed_of negative size ≡ Some z → (z ≡ with_sign negative size) × Fits z
    there (inl h) e =
        let k : z ≡ with_sign negative size = cc (signed-number negative size h) in
        (k, subst Fits (sym k) (fits negative size h))
    there (inr h) e = let k : ◌≡◌ {A = ℕ} 0 1 = cc (signed_large negative size h) in absurd (omega arith)

    back : (z ≡ with_sign negative size) × Fits z → signed_of negative size ≡ Some z
    back p = signed-number negative size (within negative size (subst Fits p.0 p.1)) ∙ ap Some (sym p.0)
