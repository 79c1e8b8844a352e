-- `rounding::round_over` adds one where `round_even` rounds up: there the remainder is above 0, so that n is above the quotient.
use mathlib.Core.Path.{◌≡◌, refl}
use mathlib.Core.Logic.{◌⊎◌, inl, inr}
use mathlib.Core.Bool.{Bool, cond, ◌&&◌, ◌||◌}
use Prim.Native.Nat.{ℕ, zero, suc, ◌+◌, ◌-◌, ◌/◌, ◌%◌, ◌≤◌, ◌<◌}
use native.Mathlib.Omega.{arith}
use borrow.Author.Tests.{lt-ltb, le-ltb, eq-eqb, ne_eqb}
use lib.Dec.{ltb, eqb}
use mir.Val.{bool_byte}
use Rattle.rounding.specs.Parts.{le-or-lt}
use Rattle.rounding.specs.Rounding.{round_even}
use Rattle.rounding.proofs.round_over.Goals as goal

odd : (p : ℕ) → p < 2 → bool_byte (eqb p 1) ≡ p
odd zero h = refl
odd (suc zero) h = refl
odd (suc (suc p)) h = absurd (omega arith)

-- whether 1 is added to the quotient q, where r remains and s is lacking
abbrev up : ℕ → ℕ → ℕ → Bool
up q r s = ltb s r || (eqb r s && eqb (q % 2) 1)

added : (q r s : ℕ) → q + bool_byte (up q r s) ≡ cond (ltb r s) q (cond (ltb s r) (q + 1) (q + q % 2))
added q r s = go (le-or-lt r s) (le-or-lt s r)
  where
    go : (r ≤ s) ⊎ (s < r) → (s ≤ r) ⊎ (r < s) → q + bool_byte (up q r s) ≡ cond (ltb r s) q (cond (ltb s r) (q + 1) (q + q % 2))
    go (inr h) g = rw (lt-ltb s r h, le-ltb r s (omega arith)) refl
    go (inl h) (inr g) = rw (lt-ltb r s g, le-ltb s r h, ne_eqb r s (λ e. omega arith)) (omega arith)
    go (inl h) (inl g) = rw (le-ltb s r h, le-ltb r s g, eq-eqb r s (omega arith), odd (q % 2) (omega arith)) refl

pub returns : goal.returns
unfolding round_even
returns c =
    let n = c.args.n in
    let d = c.args.d in
    added (n / d) (n % d) (d - n % d)
