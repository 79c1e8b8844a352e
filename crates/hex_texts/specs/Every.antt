-- A test that is computed for every number below a bound holds of each.
-- Assumes nothing.
use Rattle.std.specs.Prelude.{◌≡◌, refl, Bool, true, false, ◌&&◌, ℕ, zero, suc, ◌≤◌, ◌<◌}
use Rattle.std.proofs.Common.{subst, arith}
use Rattle.std.proofs.lemmas.Bool.{false≢true}
use Rattle.std.proofs.Math.Decide.{dec_le}

-- the test passes at every number below n
abbrev pub every : (ℕ → Bool) → ℕ → Bool
every p zero = true
every p (suc n) = p n && every p n

-- two tests, both passed
pub both : (s t : Bool) → s && t ≡ true → (s ≡ true) × (t ≡ true)
both true t e = (refl, e)
both false t e = absurd (false≢true e)

pub every-at : (p : ℕ → Bool) (n : ℕ) → every p n ≡ true → (k : ℕ) → k < n → p k ≡ true
every-at p zero e k h = absurd (omega arith)
every-at p (suc n) e k h = by (dec_le n k) (every-at p n (both (p n) (every p n) e).1 k)
  where
    by : Dec (n ≤ k) → (k < n → p k ≡ true) → p k ≡ true
    by (yes l) below = let same : n ≡ k = omega arith in subst (λ (x : ℕ). p x ≡ true) same (both (p n) (every p n) e).0
    by (no l) below = below (omega arith)
