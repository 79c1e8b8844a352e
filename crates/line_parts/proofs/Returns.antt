-- A line by its last byte.
-- Assumes nothing.
use mathlib.Core.Path.{◌≡◌, refl, sym, ap, ◌∙◌}
use mathlib.Core.Bool.{Bool, cond}
use mathlib.Core.List.{List, [], ◌∷◌, ◌++◌}
use Prim.Native.Nat.{ℕ}
use native.Mathlib.Omega.{arith}
use borrow.Author.Tests.{ne_eqb}
use lib.ListN.{length}
use Rattle.typed_lines.specs.Lines.{carriage_return, without_return}
use Rattle.typed_lines.proofs.LineLaws.{return_taken}

pub empty_left : (l : List ℕ) → length l ≡ 0 → l ≡ without_return l
empty_left [] h = refl
empty_left (c ∷ l) h = absurd (omega arith)

pub return_last : (l rest : List ℕ) (x : ℕ) → l ≡ rest ++ (x ∷ []) → x ≡ carriage_return → rest ≡ without_return l
return_last l rest x e h = sym (return_taken rest) ∙ ap (λ (y : ℕ). without_return (rest ++ (y ∷ []))) (sym h) ∙ ap without_return (sym e)

other_kept : (rest : List ℕ) (x : ℕ) → (x ≡ carriage_return → ⊥) → rest ++ (x ∷ []) ≡ without_return (rest ++ (x ∷ []))
other_kept [] x h = ap (λ (b : Bool). cond b [] (x ∷ [])) (sym (ne_eqb x carriage_return h))
other_kept (c ∷ []) x h = ap (λ (r : List ℕ). c ∷ r) (other_kept [] x h)
other_kept (c ∷ d ∷ rest) x h = ap (λ (r : List ℕ). c ∷ r) (other_kept (d ∷ rest) x h)

pub other_last : (l rest : List ℕ) (x : ℕ) → l ≡ rest ++ (x ∷ []) → (x ≡ carriage_return → ⊥) → l ≡ without_return l
other_last l rest x e h = e ∙ other_kept rest x h ∙ ap without_return (sym e)
