-- What rounding half to even gives, for every number and every divisor above 0. The errors are compared by the positive and negative
-- parts of the signed numbers, where two different multiples of d differ by d at least.
use Rattle.std.specs.Prelude.{◌≡◌, ◌≢◌, ◌⊎◌, Bool, true, false, not, cond, ℕ, zero, suc, ◌+◌, ◌-◌, ◌*◌, ◌/◌, ◌%◌, ◌≤◌, ◌<◌, T, ltb, ℤ, pos, neg_ℤ, ◌*ℤ◌}
use Rattle.std.proofs.Common.{sym, ap, inl, inr, add-mul, suc-mul, one-mul, zero-mul, mul-le-mul_right, div-add-mod', div-le_self, mod-lt, arith, ltb→lt, nltb→le}
use Rattle.std.proofs.Math.Nat.{eq_of_mul-eq-mul_right}
use Rattle.rounding.specs.Parts.{le-or-lt, with_sign, positive_part, negative_part, distance, nat_abs_parts, nat_abs_sub, positive_neg, negative_neg, positive_mul, negative-mul, parts-equal}
use Rattle.rounding.specs.Rounding.{round_even, Even, error, Rounded}

-- the error, by the parts of the signed numbers
pub error-parts : (z : ℤ) (d : ℕ) (k : ℤ) → error z d k ≡ distance (positive_part z + negative_part k * d) (positive_part k * d + negative_part z)
error-parts z d k = omega (arith, nat_abs_sub z (k *ℤ pos d), positive_mul k d, negative-mul k d)

-- two whole numbers are equal, or d times the one exceeds d times the other by d at least
pub data Separate (k m : ℤ) (d : ℕ) : Type 0 where
  same : k ≡ m → Separate k m d
  below : positive_part k + negative_part m < positive_part m + negative_part k → positive_part k * d + negative_part m * d + d ≤ positive_part m * d + negative_part k * d → Separate k m d
  above : positive_part m + negative_part k < positive_part k + negative_part m → positive_part m * d + negative_part k * d + d ≤ positive_part k * d + negative_part m * d → Separate k m d

multiples : (a b e f d : ℕ) → a + b < e + f → a * d + b * d + d ≤ e * d + f * d
multiples a b e f d h =
    omega
    (arith, mul-le-mul_right {m = suc (a + b)} {n = e + f} d h, suc-mul (a + b) d, add-mul a b d, add-mul e f d)

pub separate : (k m : ℤ) (d : ℕ) → Separate k m d
separate k m d =
    go
    (le-or-lt (positive_part m + negative_part k) (positive_part k + negative_part m))
    (le-or-lt (positive_part k + negative_part m) (positive_part m + negative_part k))
  where
    go : (positive_part m + negative_part k ≤ positive_part k + negative_part m) ⊎ (positive_part k + negative_part m < positive_part m + negative_part k) → (positive_part k + negative_part m ≤ positive_part m + negative_part k) ⊎ (positive_part m + negative_part k < positive_part k + negative_part m) → Separate k m d
    go (inr h) _ = below h (multiples (positive_part k) (negative_part m) (positive_part m) (negative_part k) d h)
    go (inl h) (inr l) = above l (multiples (positive_part m) (negative_part k) (positive_part k) (negative_part m) d l)
    go (inl h) (inl l) = same (parts-equal k m (omega arith))

-- ---- What is rounded

-- no whole number lies nearer
pub nearest : {z : ℤ} {d : ℕ} {k : ℤ} → Rounded z d k → (m : ℤ) → error z d k ≤ error z d m
nearest {z} {d} {k} r m = go (separate k m d)
  where
    go : Separate k m d → error z d k ≤ error z d m
    go (same e) = omega (arith, ap (error z d) e)
    go (below l h) = omega (arith, r.near, error-parts z d k, error-parts z d m)
    go (above l h) = omega (arith, r.near, error-parts z d k, error-parts z d m)

-- where another lies equally near, k is the even one
pub tie : {z : ℤ} {d : ℕ} {k : ℤ} → Rounded z d k → (m : ℤ) → m ≢ k → error z d m ≡ error z d k → Even k
tie {z} {d} {k} r m ne e = go (separate k m d)
  where
    go : Separate k m d → Even k
    go (same s) = absurd (ne (sym s))
    go (below l h) = r.even (omega (arith, r.near, error-parts z d k, error-parts z d m))
    go (above l h) = r.even (omega (arith, r.near, error-parts z d k, error-parts z d m))

-- whatever lies less than one half off is k
pub alone : {z : ℤ} {d : ℕ} {k : ℤ} → Rounded z d k → (m : ℤ) → 2 * error z d m < d → m ≡ k
alone {z} {d} {k} r m less = go (separate k m d)
  where
    go : Separate k m d → m ≡ k
    go (same s) = sym s
    go (below l h) = absurd (omega (arith, r.near, error-parts z d k, error-parts z d m))
    go (above l h) = absurd (omega (arith, r.near, error-parts z d k, error-parts z d m))

-- neighbours are not both even
neighbours : (k m : ℤ) (d : ℕ) → 0 < d → positive_part k * d + negative_part m * d + d ≡ positive_part m * d + negative_part k * d → Even k → Even m → ⊥
neighbours k m d pd e hk hm =
    let next : suc (positive_part k + negative_part m) ≡ positive_part m + negative_part k =
    eq_of_mul-eq-mul_right d pd (suc (positive_part k + negative_part m)) (positive_part m + negative_part k)
    (omega
    (arith, e, suc-mul (positive_part k + negative_part m) d, add-mul (positive_part k) (negative_part m) d, add-mul (positive_part m) (negative_part k) d)) in
    omega (arith, next, hk, hm, nat_abs_parts k, nat_abs_parts m)

-- there is only one such number
pub only : {z : ℤ} {d : ℕ} {k m : ℤ} → 0 < d → Rounded z d k → Rounded z d m → k ≡ m
only {z} {d} {k} {m} pd r s = go (separate k m d)
  where
    go : Separate k m d → k ≡ m
    go (same e) = e
    go (below l h) =
        absurd
        (neighbours k m d pd
        (omega (arith, h, r.near, s.near, error-parts z d k, error-parts z d m))
        (r.even (omega (arith, h, r.near, s.near, error-parts z d k, error-parts z d m)))
        (s.even (omega (arith, h, r.near, s.near, error-parts z d k, error-parts z d m))))
    go (above l h) =
        absurd
        (neighbours m k d pd
        (omega (arith, h, r.near, s.near, error-parts z d k, error-parts z d m))
        (s.even (omega (arith, h, r.near, s.near, error-parts z d k, error-parts z d m)))
        (r.even (omega (arith, h, r.near, s.near, error-parts z d k, error-parts z d m))))

-- ---- Rounding gives it

abbrev Roundedℕ : ℕ → ℕ → ℕ → Type 0
Roundedℕ n d k = (2 * distance n (k * d) ≤ d) × (2 * distance n (k * d) ≡ d → k % 2 ≡ 0)

none-or_once : (d p : ℕ) → p < 2 → (p * d ≡ 0) ⊎ (p * d ≡ d)
none-or_once d zero h = inl (zero-mul d)
none-or_once d (suc zero) h = inr (one-mul d)
none-or_once d (suc (suc p)) h = absurd (omega arith)

rounded_ℕ : (n d : ℕ) → 0 < d → Roundedℕ n d (round_even n d)
unfolding round_even
rounded_ℕ n d pd =
    go
    (ltb (n % d) (d - n % d))
    (ltb (d - n % d) (n % d))
    (ltb→lt (n % d) (d - n % d))
    (nltb→le (n % d) (d - n % d))
    (ltb→lt (d - n % d) (n % d))
    (nltb→le (d - n % d) (n % d))
  where
    whole : n / d * d + n % d ≡ n
    whole = div-add-mod' n d

    less : n % d < d
    less = mod-lt n pd

    even : n % d ≡ d - n % d → (n / d % 2 * d ≡ 0) ⊎ (n / d % 2 * d ≡ d) → Roundedℕ n d (n / d + n / d % 2)
    even t (inl e) = (omega (arith, t, e, whole, less, add-mul (n / d) (n / d % 2) d), λ _. omega arith)
    even t (inr e) = (omega (arith, t, e, whole, less, add-mul (n / d) (n / d % 2) d), λ _. omega arith)

    go : (b c : Bool) → (T b → n % d < d - n % d) → (T (not b) → d - n % d ≤ n % d) → (T c → d - n % d < n % d) → (T (not c) → n % d ≤ d - n % d) → Roundedℕ n d (cond b (n / d) (cond c (n / d + 1) (n / d + n / d % 2)))
    go true c f f' g g' = let h : n % d < d - n % d = f tt in (omega (arith, whole, less), λ e. absurd (omega (arith, whole, less, e)))
    go false true f f' g g' =
        let h : d - n % d < n % d = g tt in
        (omega (arith, whole, less, add-mul (n / d) 1 d, one-mul d), λ e. absurd (omega (arith, whole, less, add-mul (n / d) 1 d, one-mul d, e)))
    go false false f f' g g' =
        let h : d - n % d ≤ n % d = f' tt in
        let h' : n % d ≤ d - n % d = g' tt in
        even (omega arith) (none-or_once d (n / d % 2) (omega arith))

-- the error of both with the other sign
error_neg : (z : ℤ) (d : ℕ) (k : ℤ) → error (neg_ℤ z) d (neg_ℤ k) ≡ error z d k
error_neg z d k =
    omega
    (arith, error-parts (neg_ℤ z) d (neg_ℤ k), error-parts z d k, positive_neg z, negative_neg z, ap (λ (x : ℕ). x * d) (positive_neg k), ap (λ (x : ℕ). x * d) (negative_neg k))

rounded_neg : {z : ℤ} {d : ℕ} {k : ℤ} → Rounded z d k → Rounded (neg_ℤ z) d (neg_ℤ k)
rounded_neg {z} {d} {k} r =
    record {
      near = omega (arith, error_neg z d k, r.near);
      even = λ e.
          omega
          (arith, r.even (omega (arith, e, error_neg z d k)), nat_abs_parts k, nat_abs_parts (neg_ℤ k), positive_neg k, negative_neg k);
    }

rounded-pos : (n d : ℕ) → 0 < d → Rounded (pos n) d (pos (round_even n d))
rounded-pos n d pd =
    let same-error : error (pos n) d (pos (round_even n d)) ≡ distance n (round_even n d * d) =
    omega (arith, error-parts (pos n) d (pos (round_even n d)), zero-mul d) in
    record {
      near = omega (arith, same-error, (rounded_ℕ n d pd).0);
      even = λ e. (rounded_ℕ n d pd).1 (omega (arith, same-error, e));
    }

-- a rounded size with its sign
pub rounded-signed : (negative : Bool) (n d : ℕ) → 0 < d → Rounded (with_sign negative n) d (with_sign negative (round_even n d))
rounded-signed false n d pd = rounded-pos n d pd
rounded-signed true n d pd = rounded_neg (rounded-pos n d pd)

-- what is rounded grows by 1 at most
pub round_at-most : (n d : ℕ) → round_even n d ≤ n + 1
unfolding round_even
round_at-most n d = go (ltb (n % d) (d - n % d)) (ltb (d - n % d) (n % d))
  where
    go : (b c : Bool) → cond b (n / d) (cond c (n / d + 1) (n / d + n / d % 2)) ≤ n + 1
    go true c = omega (arith, div-le_self n d)
    go false true = omega (arith, div-le_self n d)
    go false false = omega (arith, div-le_self n d)
