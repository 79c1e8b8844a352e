-- When a part is refused: exactly when it is not in sequence, and then nothing is held.
use Rattle.std.specs.Prelude.{ℕ, ◌≡◌, refl, Bool, true, false, ◌⊎◌, eqb}
use Rattle.std.proofs.Common.{subst, inl, inr, ⊎_elim, eqb-true}
use Rattle.std.proofs.lemmas.Bool.{eqb-false}
use Rattle.reassembly_parts.specs.declared.Part.{Part}
use Rattle.reassembly_parts.specs.declared.Part.TheVariants.{One, Two, Three, Four}
use Rattle.reassembly_parts.specs.declared.Reassembly.{Reassembly}
use Rattle.reassembly_parts.specs.declared.Reassembly.TheVariants.{Empty, AfterOne, AfterTwo, AfterThree}
use Rattle.reassembly_parts.specs.declared.Step.{Step}
use Rattle.reassembly_parts.specs.Take.{taken, dropped, from_same, take_of, same_source, other_source}

-- part one is always in sequence, any other after the part before it and from the same source
pub data InSequence : Reassembly → Part → Type 0 where
  first : {r : Reassembly} {s a : ℕ} → InSequence r (One s a)
  second : {s a b : ℕ} → InSequence (AfterOne s a) (Two s b)
  third : {s a b c : ℕ} → InSequence (AfterTwo s a b) (Three s c)
  fourth : {s a b c d : ℕ} {m : Bool} → InSequence (AfterThree s a b c) (Four s d m)

same? : (s t : ℕ) (step : Step) (taken : Type 0) → (s ≡ t → taken) → taken ⊎ (from_same s t step ≡ dropped)
same? s t step taken h = go (eqb s t) refl
  where
    go : (k : Bool) → eqb s t ≡ k → taken ⊎ (from_same s t step ≡ dropped)
    go true e = inl (h (eqb-true s t e))
    go false e = inr (other_source s t step (eqb-false s t e))

-- either a part is in sequence, or it is refused and what was partial is dropped
pub sequence : (r : Reassembly) (p : Part) → InSequence r p ⊎ (take_of r p ≡ dropped)
sequence r (One s a) = inl first
sequence Empty (Two t b) = inr refl
sequence (AfterOne s a) (Two t b) = same? s t _ _ λ e. subst (λ (u : ℕ). InSequence (AfterOne s a) (Two u b)) e second
sequence (AfterTwo s a b') (Two t b) = inr refl
sequence (AfterThree s a b' c') (Two t b) = inr refl
sequence Empty (Three t c) = inr refl
sequence (AfterOne s a) (Three t c) = inr refl
sequence (AfterTwo s a b) (Three t c) = same? s t _ _ λ e. subst (λ (u : ℕ). InSequence (AfterTwo s a b) (Three u c)) e third
sequence (AfterThree s a b c') (Three t c) = inr refl
sequence Empty (Four t d m) = inr refl
sequence (AfterOne s a) (Four t d m) = inr refl
sequence (AfterTwo s a b) (Four t d m) = inr refl
sequence (AfterThree s a b c) (Four t d m) = same? s t _ _ λ e. subst (λ (u : ℕ). InSequence (AfterThree s a b c) (Four u d m)) e fourth

-- parts two, three and four in sequence and from the source held
pub second-taken : (s a b : ℕ) → take_of (AfterOne s a) (Two s b) ≡ taken (AfterTwo s a b)
second-taken s a b = same_source s s _ refl

pub third-taken : (s a b c : ℕ) → take_of (AfterTwo s a b) (Three s c) ≡ taken (AfterThree s a b c)
third-taken s a b c = same_source s s _ refl

-- so a part out of sequence is refused and drops what was partial, and a part in sequence is never refused
pub out_of-sequence : (r : Reassembly) (p : Part) → (InSequence r p → ⊥) → take_of r p ≡ dropped
out_of-sequence r p n = ⊎_elim (λ i. absurd (n i)) (λ e. e) (sequence r p)
