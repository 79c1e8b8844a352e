-- How many numbers there are of a kind, counted by a test.
-- Assumes nothing.
use Rattle.std.specs.Prelude.{◌≡◌, refl, ◌⊎◌, ◌↔◌, Bool, true, false, cond, List, [], ◌∷◌, length, ℕ, zero, suc, ◌+◌, ◌≤◌, ◌<◌}
use Rattle.std.proofs.Common.{sym, ap, ◌∙◌, inl, inr, true≢false, arith}
use Rattle.std.proofs.Math.Decide.{ℕ_discrete}

-- f is one of a list
abbrev pub In : ℕ → List ℕ → Type 0
In f [] = ⊥
In f (x ∷ l) = (f ≡ x) ⊎ In f l

-- each number of a list is greater than the one before, and the first is greater than x
abbrev pub Above : ℕ → List ℕ → Type 0
Above x [] = Unit {0}
Above x (y ∷ l) = (x < y) × Above y l

abbrev pub Rising : List ℕ → Type 0
Rising [] = Unit {0}
Rising (x ∷ l) = Above x l

-- There are n numbers f with P f: a rising list of n numbers has just those.
pub record Counted (P : ℕ → Type 0) (n : ℕ) : Type 0 where
  pub list : List ℕ
  pub size : length list ≡ n
  pub rising : Rising list
  pub just : (f : ℕ) → P f ↔ In f list

-- the numbers that pass a test, of n from a on
abbrev pub those : (ℕ → Bool) → ℕ → ℕ → List ℕ
those p a zero = []
those p a (suc n) = cond (p a) (a ∷ those p (suc a) n) (those p (suc a) n)

module _ (p : ℕ → Bool) where
  above : (n a x : ℕ) → x < a → Above x (those p a n)
  above zero a x h = tt
  above (suc n) a x h = by (p a) (above n (suc a) a (omega arith)) (above n (suc a) x (omega arith))
    where
      by : (b : Bool) → Above a (those p (suc a) n) → Above x (those p (suc a) n) → Above x (cond b (a ∷ those p (suc a) n) (those p (suc a) n))
      by true i o = (h, i)
      by false i o = o

  rises : (n a : ℕ) → Rising (those p a n)
  rises zero a = tt
  rises (suc n) a = by (p a) (rises n (suc a))
    where
      by : (b : Bool) → Rising (those p (suc a) n) → Rising (cond b (a ∷ those p (suc a) n) (those p (suc a) n))
      by true o = above n (suc a) a (omega arith)
      by false o = o

  passes : (n a f : ℕ) → In f (those p a n) → p f ≡ true
  passes zero a f i = absurd i
  passes (suc n) a f i = by (p a) refl (passes n (suc a) f) i
    where
      by : (b : Bool) → p a ≡ b → (In f (those p (suc a) n) → p f ≡ true) → In f (cond b (a ∷ those p (suc a) n) (those p (suc a) n)) → p f ≡ true
      by true e later (inl q) = ap p q ∙ e
      by true e later (inr j) = later j
      by false e later j = later j

  found : (n a f : ℕ) → a ≤ f → f < a + n → p f ≡ true → In f (those p a n)
  found zero a f l h e = absurd (omega arith)
  found (suc n) a f l h e = by (p a) refl (ℕ_discrete f a) (λ k. found n (suc a) f k (omega arith) e)
    where
      by : (b : Bool) → p a ≡ b → Dec (f ≡ a) → (suc a ≤ f → In f (those p (suc a) n)) → In f (cond b (a ∷ those p (suc a) n) (those p (suc a) n))
      by true q (yes s) later = inl s
      by true q (no s) later = inr (later (omega arith))
      by false q (yes s) later = absurd (true≢false (sym e ∙ ap p s ∙ q))
      by false q (no s) later = later (omega arith)

-- The numbers of a kind whose test passes only for n numbers from a on are as many as the test finds there.
pub counted : (p : ℕ → Bool) (P : ℕ → Type 0) (a n : ℕ) → ((f : ℕ) → (p f ≡ true) ↔ P f) → ((f : ℕ) → p f ≡ true → (a ≤ f) × (f < a + n)) → Counted P (length (those p a n))
counted p P a n test bound = record {
  list = those p a n;
  size = refl;
  rising = rises p n a;
  just = λ f. (
    λ x. let e = (test f).1 x in found p n a f (bound f e).0 (bound f e).1 e,
    λ i. (test f).0 (passes p n a f i),
  );
}
