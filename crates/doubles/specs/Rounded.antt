-- `round` of lib.Ieee, with which a division ends, gives the double nearest to the fraction: it takes the nearest multiple of the step between doubles there, and smaller steps begin only below a power of two.
-- Assumes nothing.
use Rattle.std.specs.Prelude.{◌≡◌, refl, ◌⊎◌, Bool, true, false, not, ◌&&◌, ℤ, pos, negsuc, T, ltb, leb, eqb, Float}
use Rattle.std.proofs.Common.{sym, ap, ◌∙◌, subst, inl, inr, le_refl, le_trans, le_of_eq, lt_of_le_of_lt, lt_of_lt_of_le, lt_of_not-le, not-le_of_lt, mul-one, mul_comm, mul_assoc, mul_right_comm, mul-pos, zero-mul, suc-mul, add-mul, mul-le-mul_right, div-add-mod', mod-lt, div-le_self, le-div_iff_mul-le, eq-or-lt_of_le, mul-lt-mul_of_pos_right, arith, lit<, leb→le, eqb→eq, ltb→lt, nltb→le, pow-add, pow_pos, pow_mono, shl_lt}
use Prim.Native.Nat.{ℕ, zero, suc, ◌+◌, ◌-◌, ◌*◌, ◌/◌, ◌%◌, ◌^◌, ◌≤◌, ◌<◌, zero-le, compare, Ordering}
use Rattle.std.proofs.Math.Nat.{div-div-eq-div-mul, eq_of_mul-eq-mul_right}
use Rattle.std.proofs.Math.Dec.{eqb_refl, is_le, compare_is_eq, nleb→lt}
use Rattle.std.proofs.Math.Arith.{lt_of_le-ne}
use Rattle.std.proofs.Math.Pow.{pow-lt}
use Rattle.std.specs.Float.{nan, inf, fin, Format, binary32, binary64}
use Rattle.std.specs.Float.Ieee.{prec, emax, low, up, down, size, nearest, eq, level, round, fits}
use Rattle.std.specs.Float.Ieee.Fits.{reach, kept-lt, nearest-le, round_is, and_i, and_l, and_r}
use Rattle.std.specs.Float.Ieee.Digits.{back, size-le, size_reaches}
use Rattle.std.specs.Float.Ieee.Exact.{HasValue, units_val}
use Rattle.std.specs.Float.Ieee.Nearest.{closest}
use Rattle.std.specs.Float.Ieee.Order.{drop, kept}
use Rattle.std.specs.Float.Ieee.Scale.{finite}
use Rattle.doubles.specs.Nearest.{apart}

-- ---- a fraction A / B that is not half-way between two whole numbers, to the nearest whole number

abbrev pub gap : ℕ → ℕ → ℕ
gap p a = p - a + (a - p)

-- A = W + t lies between the multiples W and W + B of B, and R is a multiple outside
below_half : (A B W t R : ℕ) → W + t ≡ A → t * 2 < B → (R ≤ W) ⊎ (W + B ≤ R) → (R ≡ W) ⊎ (gap W A < gap R A)
below_half A B W t R e h (inl o) = elim (eq-or-lt_of_le o) [ inl p ↦ inl p | inr l ↦ inr (omega arith) ]
below_half A B W t R e h (inr o) = inr (omega arith)

above_half : (A B W t R : ℕ) → W + t ≡ A → t < B → B < t * 2 → (R ≤ W) ⊎ (W + B ≤ R) → (R ≡ W + B) ⊎ (gap (W + B) A < gap R A)
above_half A B W t R e l h (inl o) = inr (omega arith)
above_half A B W t R e l h (inr o) = elim (eq-or-lt_of_le o) [ inl p ↦ inl (sym p) | inr k ↦ inr (omega arith) ]

outside : (r w B : ℕ) → (r * B ≤ w * B) ⊎ (w * B + B ≤ r * B)
outside r w B = go (ltb w r) (ltb→lt w r) (nltb→le w r)
  where
    go : (b : Bool) → (T b → w < r) → (T (not b) → r ≤ w) → (r * B ≤ w * B) ⊎ (w * B + B ≤ r * B)
    go true h k = inr (le_trans (le_of_eq (sym (suc-mul w B))) (mul-le-mul_right B (h tt)))
    go false h k = inl (mul-le-mul_right B (k tt))

closest_near : (A B r : ℕ) → 0 < B → (A % B * 2 ≡ B → ⊥) → (r * B ≡ closest A B * B) ⊎ (gap (closest A B * B) A < gap (r * B) A)
closest_near A B r above none = go (compare (A % B * 2) B) (leb→le (A % B * 2) B) (nleb→lt (A % B * 2) B) (eqb→eq (A % B * 2) B)
  where
    go : (o : Ordering) → (T (is_le o) → A % B * 2 ≤ B) → (T (not (is_le o)) → B < A % B * 2) → (T (compare_is_eq o) → A % B * 2 ≡ B)
        → (r * B ≡ nearest (A / B) o * B) ⊎ (gap (nearest (A / B) o * B) A < gap (r * B) A)
    go Ordering.lt h k e = below_half A B (A / B * B) (A % B) (r * B) (div-add-mod' A B) (lt_of_le-ne (h tt) none) (outside r (A / B) B)
    go Ordering.eq h k e = absurd (none (e tt))
    go Ordering.gt h k e =
        subst (λ (z : ℕ). (r * B ≡ z) ⊎ (gap z A < gap (r * B) A)) (sym (suc-mul (A / B) B))
        (above_half A B (A / B * B) (A % B) (r * B) (div-add-mod' A B) (mod-lt A above) (k tt) (outside r (A / B) B))

-- ---- a fraction n / b to the nearest q × 2 ^ j with a q of at most p binary digits

-- n / b is not half-way between two multiples of 2 ^ drop
abbrev pub NoTie : ℕ → ℕ → ℕ → Type 0
NoTie p n b = n % (b * 2 ^ drop p n b) * 2 ≡ b * 2 ^ drop p n b → ⊥

closer : (g u v n : ℕ) → u < v → v ≤ n → (v ≡ g) ⊎ (gap g n < gap v n) → gap g n < gap u n
closer g u v n h k (inl e) = omega arith
closer g u v n h k (inr l) = omega arith

fewer : (p j k : ℕ) → 0 < p → j < k → p + j ≤ p - 1 + k
fewer p j k h l = omega arith

in_use : (z p : ℕ) → 0 < p → 0 < z - p → p - 1 + (z - p) < z
in_use z p h l = omega arith

-- any other multiple of 2 ^ drop is farther; and where q × 2 ^ j is none, 2 ^ (p - 1 + drop) is one and lies between it and n / b
pub grid_near : (p n b : ℕ) → 0 < p → 0 < b → NoTie p n b → (q j : ℕ) → q < 2 ^ p
    → (q * 2 ^ j * b ≡ kept p n b * 2 ^ drop p n b * b) ⊎ (gap (kept p n b * 2 ^ drop p n b * b) n < gap (q * 2 ^ j * b) n)
grid_near p n b P above none q j few = go (ltb j (drop p n b)) (ltb→lt j (drop p n b)) (nltb→le j (drop p n b))
  where
    shifted : (r : ℕ) → r * (b * 2 ^ drop p n b) ≡ r * 2 ^ drop p n b * b
    shifted r = ap (λ (z : ℕ). r * z) (mul_comm b (2 ^ drop p n b)) ∙ sym (mul_assoc r (2 ^ drop p n b) b)

    multiple : (r : ℕ) → (r * 2 ^ drop p n b * b ≡ kept p n b * 2 ^ drop p n b * b) ⊎ (gap (kept p n b * 2 ^ drop p n b * b) n < gap (r * 2 ^ drop p n b * b) n)
    multiple r =
        subst (λ (z : ℕ). (r * 2 ^ drop p n b * b ≡ z) ⊎ (gap z n < gap (r * 2 ^ drop p n b * b) n)) (shifted (kept p n b))
        (subst (λ (z : ℕ). (z ≡ kept p n b * (b * 2 ^ drop p n b)) ⊎ (gap (kept p n b * (b * 2 ^ drop p n b)) n < gap z n)) (shifted r)
        (closest_near n (b * 2 ^ drop p n b) r (mul-pos above (pow_pos (drop p n b))) none))

    go : (c : Bool) → (T c → j < drop p n b) → (T (not c) → drop p n b ≤ j)
        → (q * 2 ^ j * b ≡ kept p n b * 2 ^ drop p n b * b) ⊎ (gap (kept p n b * 2 ^ drop p n b * b) n < gap (q * 2 ^ j * b) n)
    go true h k =
        let d = drop p n b in
        let power : 2 ^ (p - 1) * 2 ^ d ≡ 2 ^ (p - 1 + d) = sym (pow-add 2 (p - 1) d) in
        inr
        (closer (kept p n b * 2 ^ d * b) (q * 2 ^ j * b) (2 ^ (p - 1) * 2 ^ d * b) n
        (mul-lt-mul_of_pos_right (lt_of_lt_of_le (shl_lt p j few) (le_trans (pow_mono (fewer p j d P (h tt))) (le_of_eq (sym power)))) above)
        (le_trans (le_of_eq (ap (λ (z : ℕ). z * b) power)) ((le-div_iff_mul-le above).0 (size_reaches (n / b) (p - 1 + d) (in_use (size (n / b)) p P (lt_of_le_of_lt zero-le (h tt))))))
        (multiple (2 ^ (p - 1))))
    go false h k =
        let d = drop p n b in
        subst (λ (z : ℕ). (z * b ≡ kept p n b * 2 ^ d * b) ⊎ (gap (kept p n b * 2 ^ d * b) n < gap (z * b) n))
        (mul_assoc q (2 ^ (j - d)) (2 ^ d) ∙ ap (λ (z : ℕ). q * z) (sym (pow-add 2 (j - d) d) ∙ ap (λ (z : ℕ). 2 ^ z) (back j d (k tt))))
        (multiple (q * 2 ^ (j - d)))

-- with either sign: the same, both zero, or farther
abbrev pub Compared : Bool → Bool → ℕ → ℕ → ℕ → Type 0
Compared t s v g n = ((t ≡ s) × (v ≡ g)) ⊎ (((v ≡ 0) × (g ≡ 0)) ⊎ (gap g n < apart t v s n))

pub alike : (s : Bool) (v g n : ℕ) → (v ≡ g) ⊎ (gap g n < gap v n) → ((s ≡ s) × (v ≡ g)) ⊎ (((v ≡ 0) × (g ≡ 0)) ⊎ (gap g n < gap v n))
alike s v g n (inl e) = inl (refl, e)
alike s v g n (inr l) = inr (inr l)

pub opposite : (v g n z : ℕ) → z ≡ 0 → (z ≡ g) ⊎ (gap g n < gap z n) → ((v ≡ 0) × (g ≡ 0)) ⊎ (gap g n < v + n)
opposite zero g n z e (inl p) = inl (refl, sym p ∙ e)
opposite (suc v) g n z e (inl p) = inr (omega arith)
opposite v g n z e (inr l) = inr (omega arith)

-- ---- a double is q × 2 ^ j of the format's smallest values, 2 ^ -low, with a q of at most prec binary digits

pub record InUnits (f : Format) (m : ℕ) (e : ℤ) : Type 0 where
  pub exponent : ℕ
  pub few : m < 2 ^ prec f
  pub same : m * up e * 2 ^ low f ≡ m * 2 ^ exponent * down e

in_reach : (k l : ℕ) → 2 ^ suc k ≤ 2 ^ l → suc k ≤ l
in_reach k l h = lt_of_not-le (λ (g : l ≤ k). not-le_of_lt (lt_of_le_of_lt (pow_mono g) (pow-lt (le_refl (suc k)))) h)

bounds : (f : Format) (t : Bool) (m : ℕ) (e : ℤ) → T (fits f (fin t (suc m) e)) → (suc m < 2 ^ prec f) × (down e ≤ 2 ^ low f)
unfolding fits
bounds f t m e h =
    let A = eqb (suc m % 2) 1 in
    let B = ltb (suc m) (2 ^ prec f) in
    let C = leb (down e) (2 ^ low f) in
    let tests = and_l (A && B && C) (ltb (suc m * up e) (2 ^ suc (emax f) * down e)) h in
    (ltb→lt (suc m) (2 ^ prec f) (and_r A B (and_l (A && B) C tests)), leb→le (down e) (2 ^ low f) (and_r (A && B) C tests))

pub in_units : (f : Format) (t : Bool) (m : ℕ) (e : ℤ) → T (fits f (fin t m e)) → InUnits f m e
in_units f t zero e h = record { exponent = 0; few = pow_pos (prec f); same = simp zero-mul }
in_units f t (suc m) (pos k) h = record {
  exponent = k + low f;
  few = (bounds f t m (pos k) h).0;
  same = mul_assoc (suc m) (2 ^ k) (2 ^ low f) ∙ ap (λ (z : ℕ). suc m * z) (sym (pow-add 2 k (low f))) ∙ sym (mul-one (suc m * 2 ^ (k + low f)));
}
in_units f t (suc m) (negsuc k) h = record {
  exponent = low f - suc k;
  few = (bounds f t m (negsuc k) h).0;
  same =
      ap (λ (z : ℕ). z * 2 ^ low f) (mul-one (suc m))
      ∙ ap (λ (z : ℕ). suc m * z) (ap (λ (z : ℕ). 2 ^ z) (sym (back (low f) (suc k) (in_reach k (low f) (bounds f t m (negsuc k) h).1))) ∙ pow-add 2 (low f - suc k) (suc k))
      ∙ sym (mul_assoc (suc m) (2 ^ (low f - suc k)) (2 ^ suc k));
}

-- ---- from units to the values themselves

-- values of as many units, of one sign or zero, are equal
pub level-alike : (s : Bool) (x : ℕ) → T (level s x s x)
level-alike true x = and_i (eqb x x) true (eqb_refl x) tt
level-alike false x = and_i (eqb x x) true (eqb_refl x) tt

pub level-zero : (s t : Bool) → T (level s 0 t 0)
level-zero true true = tt
level-zero true false = tt
level-zero false true = tt
level-zero false false = tt

pub crossed : (x y c d l w : ℕ) → 0 < l → x * l ≡ w * c → y * l ≡ w * d → x * d ≡ y * c
crossed x y c d l w above p q =
    eq_of_mul-eq-mul_right l above (x * d) (y * c)
    (mul_right_comm x d l ∙ ap (λ (z : ℕ). z * d) p ∙ mul_right_comm w c d ∙ ap (λ (z : ℕ). z * c) (sym q) ∙ mul_right_comm y l c)

pub vanishes : (x c d l : ℕ) → 0 < l → x * l ≡ 0 * c → x * d ≡ 0
vanishes x c d l above p = crossed x 0 c d l 0 above p (zero-mul l ∙ sym (zero-mul d)) ∙ zero-mul c

-- ---- `round`

under_overflow : (p z l x : ℕ) → z ≤ x + l → p ≤ suc x → 0 < l → p + (z - p) < l + suc x
under_overflow p z l x h k u = omega arith

kept-le : (p n b : ℕ) → kept p n b ≤ 2 ^ p
kept-le p n b =
    let u = b * 2 ^ drop p n b in
    le_trans (nearest-le (n / u) (compare (n % u * 2) u)) (subst (λ (x : ℕ). x < 2 ^ p) (div-div-eq-div-mul n b (2 ^ drop p n b)) (kept-lt p (n / b)))

low_pos : (f : Format) → 0 < low f
low_pos binary32 = lit< tt
low_pos binary64 = lit< tt

-- a / b rounded, in units, for an a / b well inside the format
pub round_value : (f : Format) (s : Bool) (a b : ℕ) → a < 2 ^ emax f → HasValue (round f s a b) s (kept (prec f) (a * 2 ^ low f) b * 2 ^ drop (prec f) (a * 2 ^ low f) b) (2 ^ low f)
round_value f s a b small =
    let p = prec f in
    let n = a * 2 ^ low f in
    let k = drop p n b in
    subst (λ (x : Float). HasValue x s (kept p n b * 2 ^ k) (2 ^ low f)) (sym (round_is f s a b))
    (units_val f s (kept p n b) k
    (lt_of_le_of_lt (mul-le-mul_right (2 ^ k) (kept-le p n b))
    (lt_of_le_of_lt (le_of_eq (sym (pow-add 2 p k)))
    (pow-lt (under_overflow p (size (n / b)) (low f) (emax f) (size-le (n / b) (emax f + low f) (lt_of_le_of_lt (div-le_self n b) (shl_lt (emax f) (low f) small))) (reach f) (low_pos f))))))

-- ---- no fraction of a number a by an odd number times a power of two lies half-way between two values, unless the two are large

odd-sum : (x v o : ℕ) → o % 2 ≡ 1 → x * 2 ≡ v * 2 + o → ⊥
odd-sum x v o h e = omega arith

doubled : (n B w t : ℕ) → w + t ≡ n → t * 2 ≡ B → n * 2 ≡ w * 2 + B
doubled n B w t e h = omega arith

-- n = w B + t with t half of B would be an odd multiple of B / 2
not_half : (n B w t o c x : ℕ) → o % 2 ≡ 1 → B ≡ o * 2 ^ c → n ≡ x * 2 ^ c → w * B + t ≡ n → t * 2 ≡ B → ⊥
not_half n B w t o c x odd is multiple split half =
    let P = 2 ^ c in
    odd-sum x (w * o) o odd
    (eq_of_mul-eq-mul_right P (pow_pos c) (x * 2) (w * o * 2 + o)
    (mul_right_comm x 2 P
    ∙ ap (λ (z : ℕ). z * 2) (sym multiple)
    ∙ doubled n B (w * B) t split half
    ∙ ap (λ (z : ℕ). w * z * 2 + z) is
    ∙ ap (λ (z : ℕ). z * 2 + o * P) (sym (mul_assoc w o P))
    ∙ ap (λ (z : ℕ). z + o * P) (mul_right_comm (w * o) P 2)
    ∙ sym (add-mul (w * o * 2) o P)))

pub no_tie : (f : Format) (a o c : ℕ) → o % 2 ≡ 1 → c + drop (prec f) (a * 2 ^ low f) (o * 2 ^ c) ≤ low f → NoTie (prec f) (a * 2 ^ low f) (o * 2 ^ c)
no_tie f a o c odd h half =
    let l = low f in
    let n = a * 2 ^ l in
    let k = drop (prec f) n (o * 2 ^ c) in
    let B = o * 2 ^ c * 2 ^ k in
    not_half n B (n / B) (n % B) o (c + k) (a * 2 ^ (l - (c + k))) odd
    (mul_assoc o (2 ^ c) (2 ^ k) ∙ ap (λ (z : ℕ). o * z) (sym (pow-add 2 c k)))
    (ap (λ (z : ℕ). a * 2 ^ z) (sym (back l (c + k) h)) ∙ ap (λ (z : ℕ). a * z) (pow-add 2 (l - (c + k)) (c + k)) ∙ sym (mul_assoc a (2 ^ (l - (c + k))) (2 ^ (c + k))))
    (div-add-mod' n B)
    half

pub few_dropped : (z p l c bits : ℕ) → z ≤ bits + l → bits + c ≤ p → p ≤ l → c + (z - p) ≤ l
few_dropped z p l c bits h k u = omega arith

pub odd_pos : (o : ℕ) → o % 2 ≡ 1 → 0 < o
odd_pos o h = omega arith

pub in_part : (bits c p : ℕ) → bits + c ≤ p → bits ≤ p
in_part bits c p h = omega arith

pub has-value_finite : (x : Float) (s : Bool) (a c : ℕ) → HasValue x s a c → T (finite x)
has-value_finite (fin t m e) s a c h = tt
has-value_finite nan s a c h = elim h [ ]
has-value_finite (inf _) s a c h = elim h [ ]
