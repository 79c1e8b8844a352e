-- The laws of every layout: joining the values that were split gives the word back where its zero bits are zero, splitting what was joined
-- gives the values back, what is joined is bounded, and the mask finds the zero bits. Each is by one step along the segments.
-- Assumes nothing.
use Rattle.std.specs.Prelude.{◌≡◌, refl, Bool, true, false, ◌&&◌, List, [], ◌∷◌, ◌++◌, ◌↔◌, ℕ, ◌+◌, ◌-◌, ◌*◌, ◌/◌, ◌%◌, ◌^◌, ◌<◌, T, eqb}
use Rattle.std.proofs.Common.{sym, ap, ap₂, ◌∙◌, subst, true≢false, add_assoc, mul_assoc, add-mul, mod-lt, add_comm, zero-mul, div-add-mod', arith, eqb-true, eq-eqb, eqb→eq, lit<, pow_pos, pow-add, shr-shr}
use Rattle.std.proofs.Math.Nat.{mod-one, zero-div}
use Rattle.std.proofs.Math.Arith.{digits_lt}
use Rattle.std.proofs.lemmas.Nat.{shl-shr, mod-pow-add, and_block}
use Rattle.std.proofs.Math.Pow.{high, low}
use Rattle.std.specs.Int.Bits.{bit_and}
use Rattle.bits.specs.Fields.{digits}
use Rattle.bits.specs.Layout.{Segment, part, gap, contiguous, size, split, clear, Clear, Fit, join, mask}

and_left : (a b : Bool) → T (a && b) → T a
and_left true b t = tt
and_left false b t = t

and_right : (a b : Bool) → T (a && b) → T b
and_right true b t = t
and_right false b t = absurd t

pub both_true : (a b : Bool) → (a && b) ≡ true → (a ≡ true) × (b ≡ true)
both_true true b e = (refl, e)
both_true false b e = absurd (true≢false (sym e))

-- two tests that pass together are the same
pub same : (a b : Bool) → (a ≡ true → b ≡ true) → (b ≡ true → a ≡ true) → a ≡ b
same true b f g = sym (f refl)
same false true f g = g refl
same false false f g = refl

-- what `contiguous` says of a segment at place p after place o: it starts there, and the others follow
pub starts : (o p : ℕ) (b : Bool) → T (eqb o p && b) → o ≡ p
starts o p b t = eqb→eq o p (and_left (eqb o p) b t)

pub next : (o p : ℕ) (b : Bool) → T (eqb o p && b) → T b
next o p b t = and_right (eqb o p) b t

rejoin : (o p : ℕ) (b c : Bool) → T (eqb o p && b) → (T b → T c) → T (eqb o p && c)
rejoin o p b c t f = by (eqb o p) t
  where
    by : (e : Bool) → T (e && b) → T (e && c)
    by true u = f u
    by false u = absurd u

-- where two neighbouring fields are cut apart
cut : (w o p n m : ℕ) → o ≡ p → digits (p + n) m w * 2 ^ n + digits p n w ≡ digits o (m + n) w
cut w o p n m e =
    sym
    (ap (λ (x : ℕ). digits x (m + n) w) e ∙ mod-pow-add (w / 2 ^ p) m n
    ∙ ap (λ (x : ℕ). x % 2 ^ m * 2 ^ n + w / 2 ^ p % 2 ^ n) (shr-shr w p n))

-- the fields of a word whose zero bits are zero, joined again
pub join-split : (o : ℕ) (l : List Segment) (w : ℕ) → T (contiguous o l) → Clear l w → join l (split l w) ≡ digits o (size l) w
join-split o [] w t z = sym (mod-one (w / 2 ^ o))
join-split o (part p n ∷ l) w t z =
    ap (λ (x : ℕ). x * 2 ^ n + digits p n w) (join-split (p + n) l w (next o p _ t) z) ∙ cut w o p n (size l) (starts o p _ t)
join-split o (gap p n ∷ l) w t z =
    ap₂ (λ (x y : ℕ). x * 2 ^ n + y) (join-split (p + n) l w (next o p _ t) z.1) (sym z.0)
    ∙ cut w o p n (size l) (starts o p _ t)

-- a word of the higher part j, the value v in n bits from place o on, and the lower part r, grouped in two ways
regroup : (j v n o r : ℕ) → (j * 2 ^ n + v) * 2 ^ o + r ≡ j * 2 ^ (o + n) + (v * 2 ^ o + r)
regroup j v n o r =
    ap (λ (x : ℕ). x + r) (add-mul (j * 2 ^ n) v (2 ^ o)) ∙ add_assoc (j * 2 ^ n * 2 ^ o) (v * 2 ^ o) r
    ∙ ap (λ (x : ℕ). x + (v * 2 ^ o + r))
    (mul_assoc j (2 ^ n) (2 ^ o) ∙ ap (λ (x : ℕ). j * x) (sym (pow-add 2 n o) ∙ ap (λ (x : ℕ). 2 ^ x) (add_comm n o)))

-- the value and the lower part together are narrow enough
below : (v n o r : ℕ) → v < 2 ^ n → r < 2 ^ o → v * 2 ^ o + r < 2 ^ (o + n)
below v n o r hv hr =
    subst (λ (x : ℕ). v * 2 ^ o + r < x) (sym (pow-add 2 n o) ∙ ap (λ (x : ℕ). 2 ^ x) (add_comm n o)) (digits_lt hv hr)

-- the word w holds these values in the fields, and zeros in the zero bits
abbrev Holds : List Segment → List ℕ → ℕ → Type 0
Holds l vs w = (split l w ≡ vs) × Clear l w

-- one step along the segments: n bits that hold v, then the others, which hold theirs whatever stands below them
step : (o p n : ℕ) (l : List Segment) (vs : List ℕ) (v r : ℕ) → o ≡ p → v < 2 ^ n → r < 2 ^ o
    → ((s : ℕ) → s < 2 ^ (p + n) → Holds l vs (join l vs * 2 ^ (p + n) + s))
    → (digits p n ((join l vs * 2 ^ n + v) * 2 ^ o + r) ≡ v) × Holds l vs ((join l vs * 2 ^ n + v) * 2 ^ o + r)
step o p n l vs v r e hv hr above =
    let k : r < 2 ^ p = subst (λ (x : ℕ). r < 2 ^ x) e hr in
    subst
    (λ (x : ℕ). (digits p n ((join l vs * 2 ^ n + v) * 2 ^ x + r) ≡ v) × Holds l vs ((join l vs * 2 ^ n + v) * 2 ^ x + r))
    (sym e) (
      ap (λ (x : ℕ). x % 2 ^ n) (high (join l vs * 2 ^ n + v) p k) ∙ low (join l vs) n hv,
      subst (λ (x : ℕ). Holds l vs x) (sym (regroup (join l vs) v n p r)) (above (v * 2 ^ p + r) (below v n p r hv k)),
    )

-- the values that were joined, split again; any digits may stand below place o
pub split-join : (o : ℕ) (l : List Segment) (vs : List ℕ) (r : ℕ) → T (contiguous o l) → Fit l vs → r < 2 ^ o
    → (split l (join l vs * 2 ^ o + r) ≡ vs) × Clear l (join l vs * 2 ^ o + r)
split-join o [] [] r t f h = (refl, tt)
split-join o [] (v ∷ vs) r t f h = absurd f
split-join o (part p n ∷ l) [] r t f h = absurd f
split-join o (part p n ∷ l) (v ∷ vs) r t f h =
    let s = step o p n l vs v r (starts o p _ t) f.0 h (λ k hk. split-join (p + n) l vs k (next o p _ t) f.1 hk) in
    (ap₂ ◌∷◌ s.0 s.1.0, s.1.1)
split-join o (gap p n ∷ l) vs r t f h =
    let s = step o p n l vs 0 r (starts o p _ t) (pow_pos n) h (λ k hk. split-join (p + n) l vs k (next o p _ t) f hk) in
    (s.1.0, (s.0, s.1.1))

-- a of m bits above b of n bits is a number of m + n bits
pub widen : (a b m n : ℕ) → a < 2 ^ m → b < 2 ^ n → a * 2 ^ n + b < 2 ^ (m + n)
widen a b m n ha hb = subst (λ (x : ℕ). a * 2 ^ n + b < x) (sym (pow-add 2 m n)) (digits_lt ha hb)

-- what is joined is below the layout's power of two
pub join-lt : (l : List Segment) (vs : List ℕ) → Fit l vs → join l vs < 2 ^ size l
join-lt [] [] f = lit< tt
join-lt [] (v ∷ vs) f = absurd f
join-lt (part p n ∷ l) [] f = absurd f
join-lt (part p n ∷ l) (v ∷ vs) f = widen (join l vs) v (size l) n (join-lt l vs f.1) f.0
join-lt (gap p n ∷ l) vs f = widen (join l vs) 0 (size l) n (join-lt l vs f) (pow_pos n)

-- the bits that two numbers share, cut at place n
and_cut : (w p n m s : ℕ) → s < 2 ^ n → bit_and (w / 2 ^ p) (m * 2 ^ n + s) ≡ bit_and (w / 2 ^ (p + n)) m * 2 ^ n + bit_and (digits p n w) s
and_cut w p n m s h =
    ap (λ (x : ℕ). bit_and x (m * 2 ^ n + s)) (sym (div-add-mod' (w / 2 ^ p) (2 ^ n)))
    ∙ and_block n (w / 2 ^ p / 2 ^ n) m (digits p n w) s (mod-lt (w / 2 ^ p) (pow_pos n)) h
    ∙ ap (λ (x : ℕ). bit_and x m * 2 ^ n + bit_and (digits p n w) s) (shr-shr w p n)

-- a sum is zero just where both parts are
both_zero : (a n d : ℕ) → (a * 2 ^ n + d ≡ 0) ↔ ((a ≡ 0) × (d ≡ 0))
both_zero a n d = (
  λ e. (sym (shl-shr a n) ∙ ap (λ (x : ℕ). x / 2 ^ n) (omega arith) ∙ zero-div (2 ^ n), omega arith),
  λ e. ap₂ (λ (x y : ℕ). x * 2 ^ n + y) e.0 e.1 ∙ ap (λ (x : ℕ). x + 0) (zero-mul (2 ^ n)),
)

-- one step along the segments: n bits of the mask that are s, then the others
pub mask_step : (o p n : ℕ) (l : List Segment) (w s : ℕ) → o ≡ p → s < 2 ^ n → (bit_and (w / 2 ^ (p + n)) (mask l) ≡ 0) ↔ Clear l w
    → (bit_and (w / 2 ^ o) (mask l * 2 ^ n + s) ≡ 0) ↔ ((bit_and (digits p n w) s ≡ 0) × Clear l w)
mask_step o p n l w s e h above =
    let c = ap (λ (x : ℕ). bit_and (w / 2 ^ x) (mask l * 2 ^ n + s)) e ∙ and_cut w p n (mask l) s h in
    let b = both_zero (bit_and (w / 2 ^ (p + n)) (mask l)) n (bit_and (digits p n w) s) in
    (λ z. ((b.0 (sym c ∙ z)).1, above.0 (b.0 (sym c ∙ z)).0), λ z. c ∙ b.1 (above.1 z.1, z.0))

-- the test of the zero bits is the statement
pub clear_test : (l : List Segment) (w : ℕ) → (clear l w ≡ true) ↔ Clear l w
clear_test [] w = (λ e. tt, λ z. refl)
clear_test (part p n ∷ l) w = clear_test l w
clear_test (gap p n ∷ l) w =
    let h = clear_test l w in (
      λ e.
          let b = both_true (eqb (digits p n w) 0) (clear l w) e in
          (eqb-true (digits p n w) 0 b.0, h.0 b.1),
      λ z. ap₂ ◌&&◌ (eq-eqb (digits p n w) 0 z.0) (h.1 z.1),
    )

-- ---- a layout with one more field above

pub size-last : (l : List Segment) (p n : ℕ) → size (l ++ (part p n ∷ [])) ≡ n + size l
size-last [] p n = omega arith
size-last (part q m ∷ l) p n = omega (arith, size-last l p n)
size-last (gap q m ∷ l) p n = omega (arith, size-last l p n)

pub contiguous-last : (o : ℕ) (l : List Segment) (s : Segment) → T (contiguous o (l ++ (s ∷ []))) → T (contiguous o l)
contiguous-last o [] s t = tt
contiguous-last o (part p n ∷ l) s t = rejoin o p _ _ t (contiguous-last (p + n) l s)
contiguous-last o (gap p n ∷ l) s t = rejoin o p _ _ t (contiguous-last (p + n) l s)

pub split-last : (l : List Segment) (p n w : ℕ) → split (l ++ (part p n ∷ [])) w ≡ split l w ++ (digits p n w ∷ [])
split-last [] p n w = refl
split-last (part q m ∷ l) p n w = ap (λ (vs : List ℕ). digits q m w ∷ vs) (split-last l p n w)
split-last (gap q m ∷ l) p n w = split-last l p n w

pub clear-last : (l : List Segment) (p n w : ℕ) → Clear (l ++ (part p n ∷ [])) w ↔ Clear l w
clear-last [] p n w = (λ z. z, λ z. z)
clear-last (part q m ∷ l) p n w = clear-last l p n w
clear-last (gap q m ∷ l) p n w =
    let h = clear-last l p n w in
    (λ z. (z.0, h.0 z.1), λ z. (z.0, h.1 z.1))

pub fit_last : (l : List Segment) (vs : List ℕ) (p n v : ℕ) → Fit l vs → v < 2 ^ n → Fit (l ++ (part p n ∷ [])) (vs ++ (v ∷ []))
fit_last [] [] p n v f h = (h, tt)
fit_last [] (x ∷ vs) p n v f h = absurd f
fit_last (part q m ∷ l) [] p n v f h = absurd f
fit_last (part q m ∷ l) (x ∷ vs) p n v f h = (f.0, fit_last l vs p n v f.1 h)
fit_last (gap q m ∷ l) vs p n v f h = fit_last l vs p n v f h

pub join_last : (l : List Segment) (vs : List ℕ) (p n v : ℕ) → Fit l vs → join (l ++ (part p n ∷ [])) (vs ++ (v ∷ [])) ≡ v * 2 ^ size l + join l vs
join_last [] [] p n v f = omega (arith, zero-mul (2 ^ n))
join_last [] (x ∷ vs) p n v f = absurd f
join_last (part q m ∷ l) [] p n v f = absurd f
join_last (part q m ∷ l) (x ∷ vs) p n v f =
    ap (λ (y : ℕ). y * 2 ^ m + x) (join_last l vs p n v f.1) ∙ regroup v (join l vs) (size l) m x ∙ ap (λ (y : ℕ). v * 2 ^ y + (join l vs * 2 ^ m + x)) (add_comm m (size l))
join_last (gap q m ∷ l) vs p n v f = ap (λ (y : ℕ). y * 2 ^ m + 0) (join_last l vs p n v f) ∙ regroup v (join l vs) (size l) m 0
    ∙ ap (λ (y : ℕ). v * 2 ^ y + (join l vs * 2 ^ m + 0)) (add_comm m (size l))
