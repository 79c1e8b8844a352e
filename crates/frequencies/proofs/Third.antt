-- The tens digit of an MLS code from 2 on is the code.
-- Assumes nothing.
use mathlib.Core.Path.{◌≡◌, refl}
use Prim.Native.Nat.{ℕ, zero, suc}

pub third : (f : ℕ → ℕ) (c : ℕ) → ((n : ℕ) → suc (suc n) ≡ f (suc (suc n))) → (c ≡ 0 → ⊥) → (c ≡ 1 → ⊥) → c ≡ f c
third f zero e n₀ n₁ = absurd (n₀ refl)
third f (suc zero) e n₀ n₁ = absurd (n₁ refl)
third f (suc (suc n)) e n₀ n₁ = e n
