-- The reason that is found is the one that is told, and no other: it is true, and no earlier one is.
-- Assumes nothing.
use Rattle.std.specs.Prelude.{◌≡◌, Bool, false, not, cond, List, ◌⊎◌, ◌↔◌, ℕ, ◌*◌, ◌/◌, ◌%◌, ◌≤◌, ◌<◌, eqb, ℤ, pos, neg_ℤ, nat_abs, ◌*ℤ◌, Option, Some, None}
use Rattle.std.proofs.Math.Path.{refl, ap, subst, subst⁻¹}
use Rattle.std.proofs.Common.{sym, ◌∙◌, inl, inr, arith, eqb-true, eq-eqb, lit≤, lit<}
use Rattle.std.proofs.Math.Bool.{true}
use Rattle.std.proofs.lemmas.Bool.{false≢true}
use Rattle.std.proofs.Math.Decide.{dec_le}
use Rattle.rounding.specs.Parts.{is_negative}
use Rattle.signed_numbers.specs.Signed.{Fits, signed_of}
use Rattle.signed_numbers.proofs.SignedTheorems.{signed_exactly}
use Rattle.reasons.specs.declared.Reason.{Reason}
use Rattle.reasons.specs.declared.Reason.TheVariants.{Agrees, Tenth, Hundredth, Thousandth, TenTimes, HundredTimes, ThousandTimes, OtherSign, NoneOfThese}
use Rattle.reasons.specs.Reasons.{number_of, Replaces, Agreeing, Holds, Told}
use Rattle.reasons.specs.Scaled.{part_of, multiple_of, opposite_of, scaled_for, asked, first_of, scaled_agrees, reason_of}
use Rattle.reasons.specs.Theorems.{clash, with-sign_times, with-sign_opposite, part-back, divides, part-of_times, Numbered, Member, reason_at, found_passes, found_first}

part_exactly : (n : ℕ) (z m : ℤ) → 0 < n → (part_of n z ≡ Some m) ↔ ((m *ℤ pos n ≡ z) × Fits m)
part_exactly n z m h = (there (eqb (nat_abs z % n) 0) refl, here)
  where
    there : (b : Bool) → eqb (nat_abs z % n) 0 ≡ b → cond b (signed_of (is_negative z) (nat_abs z / n)) None ≡ Some m
        → (m *ℤ pos n ≡ z) × Fits m
    there true t e =
        let k = (signed_exactly (is_negative z) (nat_abs z / n) m).0 e in
        (ap (λ (x : ℤ). x *ℤ pos n) k.0 ∙ part-back z n (eqb-true (nat_abs z % n) 0 t), k.1)
    there false t e = clash (cc)

    here : (m *ℤ pos n ≡ z) × Fits m → part_of n z ≡ Some m
    here k = subst (λ (x : ℤ). part_of n x ≡ Some m) k.0
        (rw (eq-eqb (nat_abs (m *ℤ pos n) % n) 0 (divides m n))
        ((signed_exactly (is_negative (m *ℤ pos n)) (nat_abs (m *ℤ pos n) / n) m).1 (sym (part-of_times m n h), k.1)))

multiple_exactly : (n : ℕ) (z m : ℤ) → (multiple_of n z ≡ Some m) ↔ ((m ≡ z *ℤ pos n) × Fits m)
multiple_exactly n z m =
    let k = signed_exactly (is_negative z) (nat_abs z * n) m in
    (λ e. ((k.0 e).0 ∙ with-sign_times z n, (k.0 e).1), λ h. k.1 (h.0 ∙ sym (with-sign_times z n), h.1))

opposite_exactly : (z m : ℤ) → (opposite_of z ≡ Some m) ↔ ((m ≡ neg_ℤ z) × Fits m)
opposite_exactly z m =
    let k = signed_exactly (not (is_negative z)) (nat_abs z) m in
    (λ e. ((k.0 e).0 ∙ with-sign_opposite z, (k.0 e).1), λ h. k.1 (h.0 ∙ sym (with-sign_opposite z), h.1))

-- What a reason puts in the place of a figure is what the code computes for it.
pub replaced_exactly : (r : Reason) (z m : ℤ) → Fits z → (scaled_for r z ≡ Some m) ↔ (Replaces r z m × Fits m)
replaced_exactly Agrees z m f = (λ e. let same : m ≡ z = cc in (same, subst⁻¹ Fits same f), λ h. ap Some (sym h.0))
replaced_exactly Tenth z m f = part_exactly 10 z m (lit< tt)
replaced_exactly Hundredth z m f = part_exactly 100 z m (lit< tt)
replaced_exactly Thousandth z m f = part_exactly 1000 z m (lit< tt)
replaced_exactly TenTimes z m f = multiple_exactly 10 z m
replaced_exactly HundredTimes z m f = multiple_exactly 100 z m
replaced_exactly ThousandTimes z m f = multiple_exactly 1000 z m
replaced_exactly OtherSign z m f = opposite_exactly z m
replaced_exactly NoneOfThese z m f = (λ e. clash (cc), λ h. absurd h.0)

-- the eight are asked in the order of their numbers
in_order : Numbered 1 asked
in_order = (refl, (refl, (refl, (refl, (refl, (refl, (refl, (refl, tt))))))))

-- what is told of each: it is the one of its number, it is asked or is the last, and its number is 1 to 9
each : (r : Reason) → (reason_at (number_of r) asked ≡ r) × (Member r asked ⊎ (r ≡ NoneOfThese)) × (1 ≤ number_of r) × (number_of r ≤ 9)
each Agrees = (refl, inl (inl refl), lit≤ tt, lit≤ tt)
each Tenth = (refl, inl (inr (inl refl)), lit≤ tt, lit≤ tt)
each Hundredth = (refl, inl (inr (inr (inl refl))), lit≤ tt, lit≤ tt)
each Thousandth = (refl, inl (inr (inr (inr (inl refl)))), lit≤ tt, lit≤ tt)
each TenTimes = (refl, inl (inr (inr (inr (inr (inl refl))))), lit≤ tt, lit≤ tt)
each HundredTimes = (refl, inl (inr (inr (inr (inr (inr (inl refl)))))), lit≤ tt, lit≤ tt)
each ThousandTimes = (refl, inl (inr (inr (inr (inr (inr (inr (inl refl))))))), lit≤ tt, lit≤ tt)
each OtherSign = (refl, inl (inr (inr (inr (inr (inr (inr (inr (inl refl)))))))), lit≤ tt, lit≤ tt)
each NoneOfThese = (refl, inr refl, lit≤ tt, lit≤ tt)

pub number-bounds : (r : Reason) → (1 ≤ number_of r) × (number_of r ≤ 9)
number-bounds r = ((each r).2, (each r).3)

-- No two reasons have one number.
pub one_number : (r s : Reason) → number_of r ≡ number_of s → r ≡ s
one_number r s e = sym (each r).0 ∙ ap (λ (n : ℕ). reason_at n asked) e ∙ (each s).0

module _ (agrees : ℤ → Bool) (z : ℤ) where
  -- two that are told are one: neither has the lower number
  told_once : (r s : Reason) → Told agrees z r → Told agrees z s → r ≡ s
  told_once r s t u = one_number r s (go (dec_le (number_of r) (number_of s)) (dec_le (number_of s) (number_of r)))
    where
      go : Dec (number_of r ≤ number_of s) → Dec (number_of s ≤ number_of r) → number_of r ≡ number_of s
      go (yes h) (yes k) = omega arith
      go (yes h) (no k) = absurd (u.none_earlier r (omega arith) t.holds)
      go (no h) k = absurd (t.none_earlier s (omega arith) u.holds)

  -- the first of those asked is told, by a test that a reason passes exactly where its figure agrees
  module _ (passes : Reason → Bool) (exactly : (r : Reason) → (passes r ≡ true) ↔ Agreeing agrees z r)
      (rs : List Reason) (numbered : Numbered 1 rs) (listed : (s : Reason) → Member s rs ⊎ (s ≡ NoneOfThese)) where
    none-agrees : (s : Reason) → number_of s < number_of (first_of passes rs) → Agreeing agrees z s → ⊥
    none-agrees s h k = go (listed s)
      where
        go : Member s rs ⊎ (s ≡ NoneOfThese) → ⊥
        go (inl m) = false≢true (sym (found_first passes 1 rs numbered s m h) ∙ (exactly s).1 k)
        go (inr e) = subst (λ (r : Reason). Replaces r z k.0) e k.1

    none_at_all : first_of passes rs ≡ NoneOfThese → (s : Reason) → Agreeing agrees z s → ⊥
    none_at_all e s k = go (dec_le 9 (number_of s))
      where
        go : Dec (9 ≤ number_of s) → ⊥
        go (yes h) = subst (λ (r : Reason). Replaces r z k.0) (one_number s NoneOfThese (omega (arith, (number-bounds s).1))) k.1
        go (no h) = let nine : number_of (first_of passes rs) ≡ 9 = ap number_of e in none-agrees s (omega arith) k

    first_holds : (passes (first_of passes rs) ≡ true) ⊎ (first_of passes rs ≡ NoneOfThese) → Holds agrees z (first_of passes rs)
    first_holds (inl p) = inl ((exactly (first_of passes rs)).0 p)
    first_holds (inr e) = inr (e, none_at_all e)

    first-told : Told agrees z (first_of passes rs)
    first-told = record {
      holds = first_holds (found_passes passes rs);
      none_earlier = λ s h k. elim k [ inl a ↦ none-agrees s h a | inr last ↦ let nine : number_of s ≡ 9 = ap number_of last.0 in omega (arith, (number-bounds (first_of passes rs)).1) ];
    }

  -- The reason that is found is the one that is told, and no other is.
  pub told_exactly : Fits z → (r : Reason) → (reason_of agrees z ≡ r) ↔ Told agrees z r
  unfolding reason_of
  told_exactly fits r =
      let told : Told agrees z (reason_of agrees z) =
      first-told (λ (r : Reason). scaled_agrees agrees (scaled_for r z)) exactly asked in_order (λ s. (each s).1) in
      (λ e. subst (Told agrees z) e told, λ t. told_once (reason_of agrees z) r told t)
    where
      -- a reason passes the test exactly where its figure agrees
      exactly : (r : Reason) → (scaled_agrees agrees (scaled_for r z) ≡ true) ↔ Agreeing agrees z r
      exactly r = (there (scaled_for r z) refl, λ h. ap (scaled_agrees agrees) ((replaced_exactly r z h.0 fits).1 (h.1, h.2)) ∙ h.3)
        where
          there : (s : Option ℤ) → scaled_for r z ≡ s → scaled_agrees agrees s ≡ true → Agreeing agrees z r
          there (Some m) d e = let k = (replaced_exactly r z m fits).0 d in (m, k.0, k.1, e)
          there None d e = absurd (false≢true e)
