-- What is computed for each of the 256 bytes holds of every byte.
-- Assumes nothing.
use Rattle.std.specs.Prelude.{◌≡◌, Bool, true, false, ◌&&◌, ℕ, zero, suc, ◌<◌, T, eqb}
use Rattle.std.proofs.Common.{sym, subst, arith, eqb→eq}
use Rattle.std.proofs.Math.Decide.{ℕ_discrete}

-- a test passes at every number below n
abbrev pub every : (ℕ → Bool) → ℕ → Bool
every p zero = true
every p (suc n) = p n && every p n

both : (a b : Bool) → T (a && b) → T a × T b
both true b t = (tt, t)
both false b t = absurd t

pub every-at : (p : ℕ → Bool) (n : ℕ) → T (every p n) → (k : ℕ) → k < n → T (p k)
every-at p zero t k h = absurd (omega arith)
every-at p (suc n) t k h = by (ℕ_discrete k n) (every-at p n (both (p n) _ t).1 k)
  where
    by : Dec (k ≡ n) → (k < n → T (p k)) → T (p k)
    by (yes e) below = subst (λ (x : ℕ). T (p x)) (sym e) (both (p n) _ t).0
    by (no e) below = below (omega arith)

-- two numbers that are made of a byte are the same for every byte, if they are for each of the 256
pub over_bytes : (f g : ℕ → ℕ) → T (every (λ (b : ℕ). eqb (f b) (g b)) 256) → (b : ℕ) → b < 256 → f b ≡ g b
over_bytes f g t b h = eqb→eq (f b) (g b) (every-at (λ (x : ℕ). eqb (f x) (g x)) 256 t b h)
