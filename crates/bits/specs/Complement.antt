-- Two's complement, once for every width n: 13 bits for azimuth, course and glide counts, 16 for MLS deviations.
-- Assumes nothing.
use Rattle.std.specs.Prelude.{◌≡◌, refl, Bool, true, false, cond, ℕ, zero, suc, ◌+◌, ◌-◌, ◌*◌, ◌/◌, ◌%◌, ◌^◌, ◌<◌, ltb, ℤ, pos, negsuc}
use Rattle.std.proofs.Common.{sym, ap, ap₂, ◌∙◌, mod-lt, mod-eq_of_lt, pow-suc, add-mul, arith, lt-ltb, le-ltb, ltb-true, ltb-false, pow_pos}
use Rattle.std.proofs.lemmas.Nat.{mod-pow-add}
use Rattle.std.proofs.Math.Pow.{mod-mod-pow, low, ones_split}
use Rattle.std.specs.Int.Signed.{mag}

-- the number that the n binary digits d mean: the highest is the sign
abbrev pub signed : ℕ → ℕ → ℤ
signed n d = cond (ltb d (2 ^ (n - 1))) (pos d) (negsuc (2 ^ n - 1 - d))

-- the n lowest binary digits of a number
abbrev pub complement : ℕ → ℤ → ℕ
complement n (pos k) = k % 2 ^ n
complement n (negsuc k) = 2 ^ n - 1 - k % 2 ^ n

-- the numbers that n digits hold: from -2^(n-1) to 2^(n-1) - 1 (`mag` of k and of -k-1 is k)
abbrev pub Holds : ℕ → ℤ → Type 0
Holds n z = mag z < 2 ^ (n - 1)

-- half of the power of two, twice
halves : (n : ℕ) → 0 < n → 2 ^ (n - 1) * 2 ≡ 2 ^ n
halves zero h = absurd (omega arith)
halves (suc n) h = ap (λ (k : ℕ). 2 ^ k * 2) (omega arith) ∙ sym (pow-suc 2 n)

pub complement-lt : (n : ℕ) (z : ℤ) → complement n z < 2 ^ n
complement-lt n (pos k) = mod-lt k (pow_pos n)
complement-lt n (negsuc k) = omega (arith, pow_pos n)

-- what the digits of the number that n digits mean are: those digits
pub complement-signed : (n d : ℕ) → d < 2 ^ n → complement n (signed n d) ≡ d
complement-signed n d h = by (ltb d (2 ^ (n - 1)))
  where
    by : (low : Bool) → complement n (cond low (pos d) (negsuc (2 ^ n - 1 - d))) ≡ d
    by true = mod-eq_of_lt h
    by false =
        let k : (2 ^ n - 1 - d) % 2 ^ n ≡ 2 ^ n - 1 - d = mod-eq_of_lt (omega arith) in
        omega arith

-- a number that n digits hold is what its digits mean
pub signed-complement : (n : ℕ) (z : ℤ) → 0 < n → Holds n z → signed n (complement n z) ≡ z
signed-complement n (pos k) p h =
    let m : k % 2 ^ n ≡ k = mod-eq_of_lt (omega (arith, halves n p)) in
    ap (signed n) m ∙ ap (λ (b : Bool). cond b (pos k) (negsuc (2 ^ n - 1 - k))) (lt-ltb k (2 ^ (n - 1)) h)
signed-complement n (negsuc k) p h =
    let e : 2 ^ (n - 1) * 2 ≡ 2 ^ n = halves n p in
    let m : k % 2 ^ n ≡ k = mod-eq_of_lt (omega arith) in
    let d : ℕ = 2 ^ n - 1 - k in
    ap (λ (x : ℕ). signed n (2 ^ n - 1 - x)) m
    ∙ ap (λ (b : Bool). cond b (pos d) (negsuc (2 ^ n - 1 - d))) (le-ltb d (2 ^ (n - 1)) (omega arith))
    ∙ ap negsuc (omega arith)

-- what n digits mean is a number that n digits hold
pub signed-holds : (n d : ℕ) → 0 < n → d < 2 ^ n → Holds n (signed n d)
signed-holds n d p h = by (ltb d (2 ^ (n - 1))) refl
  where
    by : (low : Bool) → ltb d (2 ^ (n - 1)) ≡ low → Holds n (cond low (pos d) (negsuc (2 ^ n - 1 - d)))
    by true e = ltb-true d (2 ^ (n - 1)) e
    by false e = omega (arith, halves n p, ltb-false d (2 ^ (n - 1)) e)

-- fewer digits of a number are the lowest of more
pub complement-narrow : (n j : ℕ) (z : ℤ) → complement n z ≡ complement (j + n) z % 2 ^ n
complement-narrow n j (pos k) = sym (mod-mod-pow k j n)
complement-narrow n j (negsuc k) =
    let q : ℕ = k / 2 ^ n % 2 ^ j in
    let r : ℕ = k % 2 ^ n in
    let hq : q < 2 ^ j = mod-lt (k / 2 ^ n) (pow_pos j) in
    let hr : r < 2 ^ n = mod-lt k (pow_pos n) in
    let s : (2 ^ j - 1 - q) + q ≡ 2 ^ j - 1 = omega arith in
    let m : (2 ^ j - 1 - q) * 2 ^ n + q * 2 ^ n ≡ (2 ^ j - 1) * 2 ^ n =
    sym (add-mul (2 ^ j - 1 - q) q (2 ^ n)) ∙ ap (λ (x : ℕ). x * 2 ^ n) s in
    let e : 2 ^ (j + n) - 1 - k % 2 ^ (j + n) ≡ (2 ^ j - 1 - q) * 2 ^ n + (2 ^ n - 1 - r) =
    ap₂ (λ (x y : ℕ). x - y) (ones_split j n) (mod-pow-add k j n)
    ∙ omega arith in
    sym (ap (λ (x : ℕ). x % 2 ^ n) e ∙ low (2 ^ j - 1 - q) n (omega (arith, pow_pos n)))
