-- A number's text by whether it starts with a minus.
-- Assumes nothing.
use mathlib.Core.Path.{◌≡◌, refl, sym, ap, ◌∙◌}
use mathlib.Core.Bool.{Bool, true, false, cond}
use mathlib.Core.List.{List, [], ◌∷◌}
use Prim.Native.Nat.{ℕ, ◌-◌, ◌≤◌}
use native.Mathlib.Omega.{arith}
use lib.ListN.{length, take, drop}
use Rattle.typed_texts.specs.Texts.{starts_with, unsigned}
use Rattle.typed_parts.proofs.Parts.{rest}

pub minus_there : (t : List ℕ) → starts_with 45 t ≡ true → 1 ≤ length t
minus_there [] h = let z : ◌≡◌ {A = ℕ} 0 1 = cc in absurd (omega arith)
minus_there (c ∷ t) h = omega arith

pub minus_dropped : (t : List ℕ) → starts_with 45 t ≡ true → take (length t - 1) (drop 1 t) ≡ unsigned t
minus_dropped [] h = refl
minus_dropped (c ∷ t) h = rest (c ∷ t) 1 ∙ ap (λ (b : Bool). cond b t (c ∷ t)) (sym h)

pub no_minus : (t : List ℕ) → starts_with 45 t ≡ false → t ≡ unsigned t
no_minus [] h = refl
no_minus (c ∷ t) h = ap (λ (b : Bool). cond b t (c ∷ t)) (sym h)
