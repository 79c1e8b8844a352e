-- `round` of lib.Ieee, with which a division ends, gives the double nearest to the fraction: it takes the nearest multiple of the step between doubles there, and smaller steps begin only below a power of two.
-- Assumes nothing.
use Rattle.std.specs.Prelude.{◌≡◌, refl, ◌⊎◌, Bool, true, false, cond, ℤ, nat_abs, T, Float}
use Rattle.std.proofs.Common.{sym, ap, ◌∙◌, subst, inl, inr, le_trans, le_of_eq, lt_of_le_of_lt, lt_of_lt_of_le, mul_comm, mul_right_comm, mul-pos, zero-mul, add-mul, div-le_self, mul-lt-mul_of_pos_right, lt_of_mul-lt-mul_right, lit≤, pow_pos, pow_mono, shl_lt}
use Prim.Native.Nat.{ℕ, ◌+◌, ◌-◌, ◌*◌, ◌/◌, ◌%◌, ◌^◌, ◌≤◌, ◌<◌}
use Rattle.std.proofs.Math.Nat.{mul-sub, eq_of_mul-eq-mul_right}
use Rattle.std.specs.Bool.{beq}
use Rattle.std.specs.Float.{nan, inf, fin, Format, binary64}
use Rattle.std.specs.Float.Ieee.{prec, emax, low, up, down, size, eq, level, round, fits}
use Rattle.std.specs.Float.Ieee.Fits.{two, two-le_pos, down_pos, round-fits}
use Rattle.std.specs.Float.Ieee.Digits.{size-le}
use Rattle.std.specs.Float.Ieee.Exact.{HasValue}
use Rattle.std.specs.Float.Ieee.Order.{drop, kept}
use Rattle.std.specs.Float.Ieee.Scale.{finite}
use Rattle.std.specs.Float.Ieee.Positive.{den}
use Rattle.doubles.specs.Exact.{negative}
use Rattle.doubles.specs.Nearest.{apart, distance, IsNearest}
use Rattle.doubles.specs.Rounded.{gap, NoTie, grid_near, Compared, alike, opposite, in_units, level-alike, level-zero, crossed, vanishes, round_value, no_tie, few_dropped, odd_pos, in_part, has-value_finite}

apart_near : (p n b : ℕ) → 0 < p → 0 < b → NoTie p n b → (q j : ℕ) → q < 2 ^ p → (t s : Bool) → Compared t s (q * 2 ^ j * b) (kept p n b * 2 ^ drop p n b * b) n
apart_near p n b P above none q j few t s = go t s
  where
    against_zero : ((q * 2 ^ j * b ≡ 0) × (kept p n b * 2 ^ drop p n b * b ≡ 0)) ⊎ (gap (kept p n b * 2 ^ drop p n b * b) n < q * 2 ^ j * b + n)
    against_zero = opposite (q * 2 ^ j * b) (kept p n b * 2 ^ drop p n b * b) n (0 * 2 ^ 0 * b) (zero-mul b) (grid_near p n b P above none 0 0 (pow_pos p))

    go : (t s : Bool) → Compared t s (q * 2 ^ j * b) (kept p n b * 2 ^ drop p n b * b) n
    go true true = alike true (q * 2 ^ j * b) (kept p n b * 2 ^ drop p n b * b) n (grid_near p n b P above none q j few)
    go false false = alike false (q * 2 ^ j * b) (kept p n b * 2 ^ drop p n b * b) n (grid_near p n b P above none q j few)
    go true false = inr against_zero
    go false true = inr against_zero

apart_scale : (t s : Bool) (p a c : ℕ) → apart t (p * c) s (a * c) ≡ apart t p s a * c
apart_scale t s p a c = go (beq t s)
  where
    less : (x y : ℕ) → x * c - y * c ≡ (x - y) * c
    less x y = ap (λ (z : ℕ). z - y * c) (mul_comm x c) ∙ ap (λ (z : ℕ). c * x - z) (mul_comm y c) ∙ sym (mul-sub c x y) ∙ mul_comm c (x - y)

    go : (b : Bool) → cond b (gap (p * c) (a * c)) (p * c + a * c) ≡ cond b (gap p a) (p + a) * c
    go true = ap (λ (z : ℕ). z + (a * c - p * c)) (less p a) ∙ ap (λ (z : ℕ). (p - a) * c + z) (less a p) ∙ sym (add-mul (p - a) (a - p) c)
    go false = sym (add-mul p a c)

-- a value of w units: how far it is from a / b, in its own terms and in units
in_units_apart : (t s : Bool) (m : ℕ) (e : ℤ) (a b l w : ℕ) → m * up e * l ≡ w * down e → apart t (m * up e * b) s (a * down e) * l ≡ apart t (w * b) s (a * l) * down e
in_units_apart t s m e a b l w h =
    sym (apart_scale t s (m * up e * b) (a * down e) l)
    ∙ ap (λ (z : ℕ). apart t z s (a * down e * l)) (mul_right_comm (m * up e) b l ∙ ap (λ (z : ℕ). z * b) h ∙ mul_right_comm w (down e) b)
    ∙ ap (λ (z : ℕ). apart t (w * b * down e) s z) (mul_right_comm a (down e) l)
    ∙ apart_scale t s (w * b) (a * l) (down e)

apart_same : (s : Bool) (p a : ℕ) → apart s p s a ≡ gap p a
apart_same true p a = refl
apart_same false p a = refl

-- x of g units with the sign of a / b, and y of w units, from what the units say
decided : (s t σ : Bool) (m r : ℕ) (e d : ℤ) (a b l g w : ℕ) → 0 < b → 0 < l → s ≡ σ → m * up e * l ≡ g * down e → r * up d * l ≡ w * down d → Compared t σ (w * b) (g * b) (a * l)
    → T (level s (m * up e * down d) t (r * up d * down e)) ⊎ (apart s (m * up e * b) σ (a * down e) * down d < apart t (r * up d * b) σ (a * down d) * down e)
decided s t σ m r e d a b l g w B L sign p q (inl c) =
    let same : m * up e * down d ≡ r * up d * down e = crossed (m * up e) (r * up d) (down e) (down d) l g L p (q ∙ ap (λ (z : ℕ). z * down d) (eq_of_mul-eq-mul_right b B w g c.1)) in
    inl
    (subst (λ (u : Bool). T (level s (m * up e * down d) u (r * up d * down e))) (sign ∙ sym c.0)
    (subst (λ (z : ℕ). T (level s (m * up e * down d) s z)) same (level-alike s (m * up e * down d))))
decided s t σ m r e d a b l g w B L sign p q (inr (inl c)) =
    let x : m * up e * down d ≡ 0 = vanishes (m * up e) (down e) (down d) l L (p ∙ ap (λ (z : ℕ). z * down e) (eq_of_mul-eq-mul_right b B g 0 (c.1 ∙ sym (zero-mul b)))) in
    let y : r * up d * down e ≡ 0 = vanishes (r * up d) (down d) (down e) l L (q ∙ ap (λ (z : ℕ). z * down d) (eq_of_mul-eq-mul_right b B w 0 (c.0 ∙ sym (zero-mul b)))) in
    inl (subst (λ (z : ℕ). T (level s z t (r * up d * down e))) (sym x) (subst (λ (z : ℕ). T (level s 0 t z)) (sym y) (level-zero s t)))
decided s t σ m r e d a b l g w B L sign p q (inr (inr less)) =
    let X = apart s (m * up e * b) σ (a * down e) in
    let Y = apart t (r * up d * b) σ (a * down d) in
    let here : X * l ≡ gap (g * b) (a * l) * down e =
    in_units_apart s σ m e a b l g p ∙ ap (λ (z : Bool). apart z (g * b) σ (a * l) * down e) sign ∙ ap (λ (z : ℕ). z * down e) (apart_same σ (g * b) (a * l)) in
    let there : Y * l ≡ apart t (w * b) σ (a * l) * down d = in_units_apart t σ r d a b l w q in
    inr
    (lt_of_mul-lt-mul_right l
    (lt_of_le_of_lt (le_of_eq (mul_right_comm X (down d) l ∙ ap (λ (z : ℕ). z * down d) here ∙ mul_right_comm (gap (g * b) (a * l)) (down e) (down d)))
    (lt_of_lt_of_le (mul-lt-mul_of_pos_right (mul-lt-mul_of_pos_right less (down_pos d)) (down_pos e))
    (le_of_eq (ap (λ (z : ℕ). z * down e) (sym there) ∙ mul_right_comm Y l (down e))))))

-- a rounded fraction that was not half-way, and any value of the format: equal, or the second is farther
farther : (f : Format) (n : ℤ) (b : ℕ) (x y : Float) → 0 < b → NoTie (prec f) (nat_abs n * 2 ^ low f) b
    → HasValue x (negative n) (kept (prec f) (nat_abs n * 2 ^ low f) b * 2 ^ drop (prec f) (nat_abs n * 2 ^ low f) b) (2 ^ low f)
    → T (finite y) → T (fits f y) → T (eq x y) ⊎ (distance x n b * den y < distance y n b * den x)
unfolding eq
farther f n b (fin s m e) (fin t r d) above none v q h =
    let a = nat_abs n * 2 ^ low f in
    let u = in_units f t r d h in
    decided s t (negative n) m r e d (nat_abs n) b (2 ^ low f) (kept (prec f) a b * 2 ^ drop (prec f) a b) (r * 2 ^ u.exponent) above (pow_pos (low f)) v.0 v.1 u.same
    (apart_near (prec f) a b (two-le_pos (prec f) (two f)) above none r u.exponent u.few t (negative n))
farther f n b nan y above none v q h = elim v [ ]
farther f n b (inf _) y above none v q h = elim v [ ]
farther f n b (fin s m e) nan above none v q h = elim q [ ]
farther f n b (fin s m e) (inf _) above none v q h = elim q [ ]

-- Where the bits of the numerator and the power of two in the denominator are at most 53 together, nothing lies half-way, and `round` gives the one nearest double.
pub round_nearest : (n : ℤ) (bits o c : ℕ) → nat_abs n < 2 ^ bits → o % 2 ≡ 1 → bits + c ≤ 53 → IsNearest (round binary64 (negative n) (nat_abs n) (o * 2 ^ c)) n (o * 2 ^ c)
round_nearest n bits o c small odd within =
    let l = low binary64 in
    let a = nat_abs n * 2 ^ l in
    let d = o * 2 ^ c in
    let x = round binary64 (negative n) (nat_abs n) d in
    let g = kept 53 a d * 2 ^ drop 53 a d in
    let v : HasValue x (negative n) g (2 ^ l) = round_value binary64 (negative n) (nat_abs n) d (lt_of_lt_of_le small (pow_mono {j = emax binary64} (le_trans (in_part bits c 53 within) (lit≤ tt)))) in
    let none : NoTie 53 a d = no_tie binary64 (nat_abs n) o c odd
    (few_dropped (size (a / d)) 53 l c bits (size-le (a / d) (bits + l) (lt_of_le_of_lt (div-le_self a d) (shl_lt bits l small))) within (lit≤ tt)) in
    record {
      is_finite = has-value_finite x (negative n) g (2 ^ l) v;
      is_double = round-fits binary64 (negative n) (nat_abs n) d;
      others_farther = λ y p q. farther binary64 n d x y (mul-pos (odd_pos o odd) (pow_pos c)) none v p q;
    }
