-- What makes the definitions of `Lines` believable: the parts are the text, the first has no blank, and what stands behind it starts with one.
-- Assumes nothing.
use Rattle.std.specs.Prelude.{◌≡◌, refl, Bool, true, false, not, cond, ◌||◌, List, [], ◌∷◌, ◌++◌, ℕ, eqb}
use Rattle.std.proofs.Common.{sym, ap, ap₂, ◌∙◌, inl, inr, eqb-true}
use Rattle.std.proofs.lemmas.Bool.{false≢true, not-true, not-false}
use Rattle.typed_lines.specs.Lines.{is_blank, in_run, run_of, behind_run, skip_blanks, first_part, behind_part, without_return}
use Rattle.typed_lines.specs.LineLaws.{Blank, Of, Each, Blanks, NoBlank, Starts, run_joined}

blank_there : (c : ℕ) → is_blank c ≡ true → Blank c
blank_there c = by (eqb c 32) refl
  where
    by : (b : Bool) → eqb c 32 ≡ b → (b || eqb c 9) ≡ true → Blank c
    by true e h = inl (eqb-true c 32 e)
    by false e h = inr (eqb-true c 9 h)

blank_passes : (c : ℕ) → Blank c → is_blank c ≡ true
blank_passes c (inl e) = ap is_blank e
blank_passes c (inr e) = ap is_blank e

no_blank_there : (c : ℕ) → is_blank c ≡ false → Blank c → ⊥
no_blank_there c e h = false≢true (sym e ∙ blank_passes c h)

no_blank_fails : (c : ℕ) → (Blank c → ⊥) → is_blank c ≡ false
no_blank_fails c h = by (is_blank c) refl
  where
    by : (b : Bool) → is_blank c ≡ b → b ≡ false
    by true e = absurd (h (blank_there c e))
    by false e = refl

in_there : (blanks : Bool) (c : ℕ) → in_run blanks c ≡ true → Of blanks c
in_there true c e = blank_there c e
in_there false c e = no_blank_there c (not-true (is_blank c) e)

out_there : (blanks : Bool) (c : ℕ) → in_run blanks c ≡ false → Of (not blanks) c
out_there true c e = no_blank_there c e
out_there false c e = blank_there c (not-false (is_blank c) e)

in_passes : (blanks : Bool) (c : ℕ) → Of blanks c → in_run blanks c ≡ true
in_passes true c h = blank_passes c h
in_passes false c h = ap not (no_blank_fails c h)

out_fails : (blanks : Bool) (c : ℕ) → Of (not blanks) c → in_run blanks c ≡ false
out_fails true c h = no_blank_fails c h
out_fails false c h = ap not (blank_passes c h)

pub run_each : (blanks : Bool) (t : List ℕ) → Each blanks (run_of blanks t)
run_each blanks [] = tt
run_each blanks (c ∷ t) = by (in_run blanks c) refl (run_each blanks t)
  where
    by : (b : Bool) → in_run blanks c ≡ b → Each blanks (run_of blanks t) → Each blanks (cond b (c ∷ run_of blanks t) [])
    by true e h = (in_there blanks c e, h)
    by false e h = tt

pub behind_starts : (blanks : Bool) (t : List ℕ) → Starts (not blanks) (behind_run blanks t)
behind_starts blanks [] = tt
behind_starts blanks (c ∷ t) = by (in_run blanks c) refl (behind_starts blanks t)
  where
    by : (b : Bool) → in_run blanks c ≡ b → Starts (not blanks) (behind_run blanks t) → Starts (not blanks) (cond b (behind_run blanks t) (c ∷ t))
    by true e h = h
    by false e h = out_there blanks c e

-- no other parting of a text is one
pub run_alone : (blanks : Bool) (s t : List ℕ) → Each blanks s → Starts (not blanks) t → (run_of blanks (s ++ t) ≡ s) × (behind_run blanks (s ++ t) ≡ t)
run_alone blanks [] [] h k = (refl, refl)
run_alone blanks [] (c ∷ t) h k =
    (ap (λ (b : Bool). cond b (c ∷ run_of blanks t) []) (out_fails blanks c k), ap (λ (b : Bool). cond b (behind_run blanks t) (c ∷ t)) (out_fails blanks c k))
run_alone blanks (c ∷ s) t h k =
    let rest = run_alone blanks s t h.1 k in
    (ap₂ (λ (b : Bool) (r : List ℕ). cond b (c ∷ r) []) (in_passes blanks c h.0) rest.0, ap₂ (λ (b : Bool) (r : List ℕ). cond b r (c ∷ (s ++ t))) (in_passes blanks c h.0) rest.1)

-- The first part has no blank.
pub first-has_no_blank : (t : List ℕ) → NoBlank (first_part t)
first-has_no_blank t = run_each false t

-- What stands behind it is empty or starts with a blank.
pub behind_starts_with-blank : (t : List ℕ) → Starts true (behind_part t)
behind_starts_with-blank t = behind_starts false t

-- A text is blanks, and then what is left of it without them.
pub blanks_skipped : (t : List ℕ) → (x : List ℕ) × Blanks x × (t ≡ x ++ skip_blanks t)
blanks_skipped t = (run_of true t, run_each true t, sym (run_joined true t))

-- That is empty or starts with no blank.
pub skipped_starts_with-none : (t : List ℕ) → Starts false (skip_blanks t)
skipped_starts_with-none t = behind_starts true t

-- One at the end is taken away.
pub return_taken : (l : List ℕ) → without_return (l ++ (13 ∷ [])) ≡ l
return_taken [] = refl
return_taken (c ∷ []) = refl
return_taken (c ∷ d ∷ l) = ap (λ (r : List ℕ). c ∷ r) (return_taken (d ∷ l))

-- A line that does not end in one is left as it is.
pub return_absent : (l : List ℕ) → ((k : List ℕ) → l ≡ k ++ (13 ∷ []) → ⊥) → without_return l ≡ l
return_absent [] h = refl
return_absent (c ∷ []) h = by (eqb c 13) refl
  where
    by : (b : Bool) → eqb c 13 ≡ b → cond b [] (c ∷ []) ≡ c ∷ []
    by true e = absurd (h [] (ap (λ (x : ℕ). x ∷ []) (eqb-true c 13 e)))
    by false e = refl
return_absent (c ∷ d ∷ l) h = ap (λ (r : List ℕ). c ∷ r) (return_absent (d ∷ l) (λ k e. h (c ∷ k) (ap (λ (r : List ℕ). c ∷ r) e)))
