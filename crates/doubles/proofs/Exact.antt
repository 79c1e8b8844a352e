-- What it means that a double has exactly the value of a fraction (`IsExactly`), and the law that count × multiplier / 1024 is computed so (`scaled_exact`).
-- Assumes nothing.
use Rattle.std.specs.Prelude.{◌≡◌, refl, ℕ, zero, suc, ◌-◌, ◌*◌, ◌^◌, ◌≤◌, ◌<◌, Bool, true, false, ℤ, pos, negsuc, nat_abs, neg_ℤ, ◌*ℤ◌, Float}
use Rattle.std.proofs.Common.{sym, ap, ◌∙◌, subst, le_trans, le_of_lt, lt_of_le_of_lt, lt_irrefl, mul_assoc, mul_right_comm, mul-le-mul, mul-pos, zero-lt-suc, arith, true≢false, lit≤, lit<, pow_pos, pow_mono}
use Rattle.std.proofs.Math.Nat.{eq_of_mul-eq-mul_right, suc_inj}
use Rattle.std.proofs.lemmas.Bool.{false≢true}
use Rattle.std.specs.Int.Signed.{nat_abs-le}
use Rattle.std.specs.Float.{nan, inf, fin, binary64}
use Rattle.std.specs.Float.Ieee.{up, down, round, mul, div, of_int}
use Rattle.std.specs.Float.Ieee.Fits.{down_pos}
use Rattle.std.specs.Float.Ieee.Exact.{HasValue}
use Rattle.std.specs.Float.Ieee.Back.{round_whole}
use Rattle.doubles.specs.Exact.{negative, IsExactly, double, product_is, quotient_is, like_positive, round_dyadic, IsCount, scaled_of}

same_whole : (n k : ℤ) → negative n ≡ negative k → nat_abs n ≡ nat_abs k → n ≡ k
same_whole (pos n) (pos k) s e = ap pos e
same_whole (pos n) (negsuc k) s e = absurd (false≢true s)
same_whole (negsuc n) (pos k) s e = absurd (true≢false s)
same_whole (negsuc n) (negsuc k) s e = ap negsuc (suc_inj e)

-- Of fractions with one denominator a double has exactly the value of at most one.
pub exact_unique : (x : Float) (n k : ℤ) (d : ℕ) → IsExactly x n d → IsExactly x k d → n ≡ k
exact_unique (fin s m e) n k d p q = same_whole n k (sym p.0 ∙ q.0) (eq_of_mul-eq-mul_right (down e) (down_pos e) (nat_abs n) (nat_abs k) (sym p.1 ∙ q.1))
exact_unique nan n k d p q = elim p [ ]
exact_unique (inf _) n k d p q = elim p [ ]

-- the library's `HasValue` says the same of a sign and a size
to_value : (x : Float) (n : ℤ) (d : ℕ) → IsExactly x n d → HasValue x (negative n) (nat_abs n) d
to_value (fin s m e) n d h = h
to_value nan n d h = elim h [ ]
to_value (inf _) n d h = elim h [ ]

of-value : (x : Float) (n : ℤ) (d : ℕ) → HasValue x (negative n) (nat_abs n) d → IsExactly x n d
of-value (fin s m e) n d h = h
of-value nan n d h = elim h [ ]
of-value (inf _) n d h = elim h [ ]

-- A whole number of at most 2 ^ 53 in size is a double.
pub double_exact : (n : ℤ) → nat_abs n ≤ 2 ^ 53 → IsExactly (double n) n 1
unfolding of_int
double_exact (pos n) h = of-value (round binary64 false n 1) (pos n) 1 (round_whole binary64 false n h)
double_exact (negsuc n) h = of-value (round binary64 true (suc n) 1) (negsuc n) 1 (round_whole binary64 true (suc n) h)

-- One division of an exact whole number by a whole number rounds once, from the fraction itself.
pub quotient_rounded : (x : Float) (n : ℤ) (d : ℕ) → 0 < d → d ≤ 2 ^ 53 → IsExactly x n 1 → div binary64 x (double (pos d)) ≡ round binary64 (negative n) (nat_abs n) d
quotient_rounded x n d above small h =
    quotient_is binary64 x (double (pos d)) (negative n) false (nat_abs n) d above (to_value x n 1 h) (to_value (double (pos d)) (pos d) 1 (double_exact (pos d) small))
    ∙ ap (λ (s : Bool). round binary64 s (nat_abs n) d) (like_positive (negative n))

-- the sign and the size of a product with a whole number above 0
negated : (j : ℕ) → 0 < j → (negative (neg_ℤ (pos j)) ≡ true) × (nat_abs (neg_ℤ (pos j)) ≡ j)
negated zero h = absurd (lt_irrefl 0 h)
negated (suc j) h = (refl, refl)

sign-and-size : (n : ℤ) (k : ℕ) → 0 < k → (negative (n *ℤ pos k) ≡ negative n) × (nat_abs (n *ℤ pos k) ≡ nat_abs n * k)
sign-and-size (pos n) k h = (refl, refl)
sign-and-size (negsuc n) k h = negated (suc n * k) (mul-pos (zero-lt-suc n) h)

product_cancel : (n j : ℤ) (k : ℕ) → 0 < k → n *ℤ pos k ≡ j *ℤ pos k → n ≡ j
product_cancel n j k h e =
    let p = sign-and-size n k h in
    let q = sign-and-size j k h in
    same_whole n j (sym p.0 ∙ ap negative e ∙ q.0) (eq_of_mul-eq-mul_right k h (nat_abs n) (nat_abs j) (sym p.1 ∙ ap nat_abs e ∙ q.1))

-- A fraction may be expanded.
pub exact_expanded : (x : Float) (n : ℤ) (k d j : ℕ) → 0 < k → 0 < j → IsExactly x (n *ℤ pos k) d → IsExactly x (n *ℤ pos (k * j)) (d * j)
exact_expanded (fin s m e) n k d j h i p =
    let y = sign-and-size n k h in
    let z = sign-and-size n (k * j) (mul-pos h i) in (
      p.0 ∙ y.0 ∙ sym z.0,
      sym (mul_assoc (m * up e) d j)
          ∙ ap (λ (t : ℕ). t * j) (p.1 ∙ ap (λ (t : ℕ). t * down e) y.1)
          ∙ mul_right_comm (nat_abs n * k) (down e) j
          ∙ ap (λ (t : ℕ). t * down e) (mul_assoc (nat_abs n) k j ∙ sym z.1),
    )
exact_expanded nan n k d j h i p = elim p [ ]
exact_expanded (inf _) n k d j h i p = elim p [ ]

-- A product of whole numbers that is at most 2 ^ 53 in size is exact.
pub product_exact : (x : Float) (n : ℤ) (k : ℕ) → 0 < k → k ≤ 2 ^ 53 → nat_abs n * k ≤ 2 ^ 53 → IsExactly x n 1 → IsExactly (mul binary64 x (double (pos k))) (n *ℤ pos k) 1
product_exact x n k above small fits h =
    let y = double (pos k) in
    let is : mul binary64 x y ≡ round binary64 (negative n) (nat_abs n * k) 1 =
    product_is binary64 x y (negative n) false (nat_abs n) k (to_value x n 1 h) (to_value y (pos k) 1 (double_exact (pos k) small))
    ∙ ap (λ (s : Bool). round binary64 s (nat_abs n * k) 1) (like_positive (negative n)) in
    let z = sign-and-size n k above in
    of-value (mul binary64 x y) (n *ℤ pos k) 1
    (subst (λ (r : Float). HasValue r (negative (n *ℤ pos k)) (nat_abs (n *ℤ pos k)) 1) (sym is)
    (subst (λ (s : Bool). HasValue (round binary64 (negative n) (nat_abs n * k) 1) s (nat_abs (n *ℤ pos k)) 1) (sym z.0)
    (subst (λ (a : ℕ). HasValue (round binary64 (negative n) (nat_abs n * k) 1) (negative n) a 1) (sym z.1)
    (round_whole binary64 (negative n) (nat_abs n * k) fits))))

-- Division of an exact whole number below 2 ^ 53 in size by a power of two is exact.
pub quotient_exact : (x : Float) (n : ℤ) (t : ℕ) → nat_abs n < 2 ^ 53 → t ≤ 53 → IsExactly x n 1 → IsExactly (div binary64 x (double (pos (2 ^ t)))) n (2 ^ t)
quotient_exact x n t small few h =
    let y = double (pos (2 ^ t)) in
    of-value (div binary64 x y) n (2 ^ t)
    (subst (λ (r : Float). HasValue r (negative n) (nat_abs n) (2 ^ t)) (sym (quotient_rounded x n (2 ^ t) (pow_pos t) (pow_mono few) h))
    (round_dyadic binary64 (negative n) (nat_abs n) t small (omega arith)))

-- The count as a double is the count.
pub count_exact : (count : ℤ) → IsCount count → IsExactly (double count) count 1
count_exact count h = double_exact count (le_trans (nat_abs-le count h) (lit≤ tt))

-- For every count and every multiplier above 0 of at most 16 bits, count × multiplier / 1024 is computed exactly: no operation rounds.
pub scaled_exact : (multiplier : ℕ) → 0 < multiplier → multiplier < 2 ^ 16 → (count : ℤ) → IsCount count → IsExactly (scaled_of multiplier 1024 count) (count *ℤ pos multiplier) 1024
scaled_exact multiplier above small count h =
    let size : nat_abs count * multiplier ≤ 2 ^ 31 = mul-le-mul (nat_abs-le count h) (le_of_lt small) in
    quotient_exact (mul binary64 (double count) (double (pos multiplier))) (count *ℤ pos multiplier) 10
    (subst (λ (n : ℕ). n < 2 ^ 53) (sym (sign-and-size count multiplier above).1) (lt_of_le_of_lt size (lit< tt)))
    (lit≤ tt)
    (product_exact (double count) count multiplier above (le_trans (le_of_lt small) (lit≤ tt)) (le_trans size (lit≤ tt)) (count_exact count h))

-- With one multiplier, different counts give different doubles.
pub scaled_injective : (multiplier : ℕ) → 0 < multiplier → multiplier < 2 ^ 16 → (a b : ℤ) → IsCount a → IsCount b → scaled_of multiplier 1024 a ≡ scaled_of multiplier 1024 b → a ≡ b
scaled_injective multiplier above small a b p q e =
    product_cancel a b multiplier above
    (exact_unique (scaled_of multiplier 1024 b) (a *ℤ pos multiplier) (b *ℤ pos multiplier) 1024
    (subst (λ (x : Float). IsExactly x (a *ℤ pos multiplier) 1024) e (scaled_exact multiplier above small a p))
    (scaled_exact multiplier above small b q))
