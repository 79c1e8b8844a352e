-- Progress by its numbers.
-- Assumes nothing.
use mathlib.Core.Path.{◌≡◌, sym, ap, ◌∙◌}
use Prim.Native.Nat.{ℕ}
use Rattle.answers.specs.declared.Outcome.{Outcome}
use Rattle.line_answers.specs.declared.Progress.{Progress}
use Rattle.line_answers.specs.LineAnswers.{counted}

abbrev pub progress : ℕ → ℕ → ℕ → ℕ → ℕ → ℕ → Progress
progress s l a d r u = record { seen = s; lines = l; agree = a; disagree = d; refused = r; unread = u }

-- the numbers that were counted, for an outcome by another name
pub alike : (p : Progress) {o o' : Outcome} {s l a d r u s' l' a' d' r' u' : ℕ} → o ≡ o' → progress s' l' a' d' r' u' ≡ counted p o'
    → s ≡ s' → l ≡ l' → a ≡ a' → d ≡ d' → r ≡ r' → u ≡ u' → progress s l a d r u ≡ counted p o
alike p told e s l a d r u = (λ i. progress (s i) (l i) (a i) (d i) (r i) (u i)) ∙ e ∙ ap (counted p) (sym told)
