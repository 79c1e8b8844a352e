-- The reason that is found is the one that is told, and no other: it is true, and no earlier one is.
-- Assumes nothing.
use Rattle.std.specs.Prelude.{◌≡◌, Bool, false, not, cond, List, [], ◌∷◌, ◌⊎◌, ℕ, zero, suc, ◌*◌, ◌/◌, ◌%◌, ◌≤◌, ◌<◌, eqb, ℤ, pos, negsuc, neg_ℤ, nat_abs, ◌*ℤ◌}
use Rattle.std.proofs.Math.Path.{refl, ap}
use Rattle.std.proofs.Common.{sym, ap₂, ◌∙◌, inl, inr, zero-mul, mul-pos, mul-div_cancel, div-add-mod', arith}
use Rattle.std.proofs.Math.Bool.{true}
use Rattle.std.proofs.Math.Nat.{mul-mod_left}
use Rattle.rounding.specs.Parts.{is_negative, with_sign, with_sign_nat_abs, nat_abs_with_sign}
use Rattle.reasons.specs.declared.Reason.{Reason}
use Rattle.reasons.specs.declared.Reason.TheVariants.{NoneOfThese}
use Rattle.reasons.specs.Reasons.{number_of}
use Rattle.reasons.specs.Scaled.{first_of}

pub clash : {A : Type 0} → ◌≡◌ {A = ℕ} 0 1 → A
clash z = absurd (omega arith)

-- ---- the figure that a reason puts in its place

-- a multiple of a signed number, by its sign and size
pub with-sign_times : (z : ℤ) (n : ℕ) → with_sign (is_negative z) (nat_abs z * n) ≡ z *ℤ pos n
with-sign_times (pos a) n = refl
with-sign_times (negsuc a) n = refl

pub with-sign_opposite : (z : ℤ) → with_sign (not (is_negative z)) (nat_abs z) ≡ neg_ℤ z
with-sign_opposite (pos a) = refl
with-sign_opposite (negsuc a) = refl

-- a size with a minus, and n times it
minus_times : (q n : ℕ) → neg_ℤ (pos q) *ℤ pos n ≡ neg_ℤ (pos (q * n))
minus_times zero n = ap pos (omega (arith, zero-mul n)) ∙ ap (λ (x : ℕ). neg_ℤ (pos x)) (sym (zero-mul n))
minus_times (suc q) n = refl

minus_negative : (x : ℕ) → 0 < x → is_negative (neg_ℤ (pos x)) ≡ true
minus_negative zero h = absurd (omega arith)
minus_negative (suc x) h = refl

-- where n divides a size, n times the n-th part is the number, and the n-th part of n times a number is that number
pub part-back : (z : ℤ) (n : ℕ) → nat_abs z % n ≡ 0 → with_sign (is_negative z) (nat_abs z / n) *ℤ pos n ≡ z
part-back (pos a) n e = ap pos (omega (arith, div-add-mod' a n))
part-back (negsuc a) n e =
    let whole : suc a / n * n ≡ suc a = omega (arith, div-add-mod' (suc a) n) in
    minus_times (suc a / n) n ∙ ap (λ (x : ℕ). neg_ℤ (pos x)) whole

times_size : (m : ℤ) (n : ℕ) → nat_abs (m *ℤ pos n) ≡ nat_abs m * n
times_size (pos a) n = refl
times_size (negsuc a) n = nat_abs_with_sign true (suc a * n)

times_sign : (m : ℤ) (n : ℕ) → 0 < n → is_negative (m *ℤ pos n) ≡ is_negative m
times_sign (pos a) n h = refl
times_sign (negsuc a) n h = minus_negative (suc a * n) (mul-pos (omega arith) h)

pub divides : (m : ℤ) (n : ℕ) → nat_abs (m *ℤ pos n) % n ≡ 0
divides m n = ap (λ (x : ℕ). x % n) (times_size m n) ∙ mul-mod_left (nat_abs m) n

pub part-of_times : (m : ℤ) (n : ℕ) → 0 < n → with_sign (is_negative (m *ℤ pos n)) (nat_abs (m *ℤ pos n) / n) ≡ m
part-of_times m n h =
    ap₂ with_sign (times_sign m n h) (ap (λ (x : ℕ). x / n) (times_size m n) ∙ mul-div_cancel (nat_abs m) h) ∙ with_sign_nat_abs m

-- ---- the reasons and their numbers

-- the reasons of a list have these numbers, one after the other
abbrev pub Numbered : ℕ → List Reason → Type 0
Numbered k [] = Unit {0}
Numbered k (r ∷ rs) = (number_of r ≡ k) × Numbered (suc k) rs

abbrev pub Member : Reason → List Reason → Type 0
Member s [] = ⊥
Member s (r ∷ rs) = (s ≡ r) ⊎ Member s rs

-- the reason of a list that has this number
abbrev pub reason_at : ℕ → List Reason → Reason
reason_at n [] = NoneOfThese
reason_at n (r ∷ rs) = cond (eqb n (number_of r)) r (reason_at n rs)

later : (k : ℕ) (rs : List Reason) → Numbered k rs → (s : Reason) → Member s rs → k ≤ number_of s
later k [] n s m = absurd m
later k (r ∷ rs) n s (inl e) = let same : number_of s ≡ number_of r = ap number_of e in omega (arith, n.0)
later k (r ∷ rs) n s (inr m) = omega (arith, later (suc k) rs n.1 s m)

-- ---- which reason is found

module _ (passes : Reason → Bool) where
  -- it passes, or is the last
  pub found_passes : (rs : List Reason) → (passes (first_of passes rs) ≡ true) ⊎ (first_of passes rs ≡ NoneOfThese)
  found_passes [] = inr refl
  found_passes (r ∷ rs) = go (passes r) refl (found_passes rs)
    where
      go : (b : Bool) → passes r ≡ b → (passes (first_of passes rs) ≡ true) ⊎ (first_of passes rs ≡ NoneOfThese)
          → (passes (cond b r (first_of passes rs)) ≡ true) ⊎ (cond b r (first_of passes rs) ≡ NoneOfThese)
      go true e rest = inl e
      go false e rest = rest

  -- and none with a lower number does
  pub found_first : (k : ℕ) (rs : List Reason) → Numbered k rs → (s : Reason) → Member s rs → number_of s < number_of (first_of passes rs) → passes s ≡ false
  found_first k [] n s m h = absurd m
  found_first k (r ∷ rs) n s m h = go (passes r) refl m h (found_first (suc k) rs n.1 s)
    where
      go : (b : Bool) → passes r ≡ b → Member s (r ∷ rs) → number_of s < number_of (cond b r (first_of passes rs))
          → (Member s rs → number_of s < number_of (first_of passes rs) → passes s ≡ false) → passes s ≡ false
      go true e (inl m) h rest = let same : number_of s ≡ number_of r = ap number_of m in absurd (omega arith)
      go true e (inr m) h rest = absurd (omega (arith, n.0, later (suc k) rs n.1 s m))
      go false e (inl m) h rest = ap passes m ∙ e
      go false e (inr m) h rest = rest m h

-- ---- the reason that is told
