-- A code that is not 0, 1 or 2 has the meaning of every code from 3 on.
-- Assumes nothing.
use mathlib.Core.Path.{◌≡◌, refl}
use Prim.Native.Nat.{ℕ, zero, suc}

pub fourth : {A : Type 0} {a : A} (f : ℕ → A) (c : ℕ) → ((n : ℕ) → a ≡ f (suc (suc (suc n)))) → (c ≡ 0 → ⊥) → (c ≡ 1 → ⊥) → (c ≡ 2 → ⊥) → a ≡ f c
fourth f zero e n₀ n₁ n₂ = absurd (n₀ refl)
fourth f (suc zero) e n₀ n₁ n₂ = absurd (n₁ refl)
fourth f (suc (suc zero)) e n₀ n₁ n₂ = absurd (n₂ refl)
fourth f (suc (suc (suc n))) e n₀ n₁ n₂ = e n
