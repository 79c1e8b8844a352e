-- A text of digits is what is written of its value: with as many places as it has, and with no leading zero where it has none.
-- Assumes nothing.
use Rattle.std.specs.Prelude.{◌≡◌, refl, List, [], ◌∷◌, ◌++◌, ◌⊎◌, ℕ, suc, ◌+◌, ◌-◌, ◌*◌, ◌/◌, ◌^◌, ◌≤◌, ◌<◌, length}
use Rattle.std.proofs.Common.{ap, ap₂, subst, ◌∙◌, append-nil, append_assoc, inl, inr, pow-suc, mul_assoc, add-one, arith, length-append}
use Rattle.std.proofs.Math.Nat.{pow-zero}
use Rattle.numerals.specs.Digits.{digit, padded, decimal}
use Rattle.numerals.specs.Theorems.{Digits, value_from, value, value-append, first, decimal_digit, decimal_step, decimal-zero}

-- What holds of no text, and of a text with one byte behind it, holds of every text.
pub by_last : (P : List ℕ → Type 0) → P [] → ((t : List ℕ) (d : ℕ) → P t → P (t ++ (d ∷ []))) → (t : List ℕ) → P t
by_last P none more t = go [] t none
  where
    go : (s t : List ℕ) → P s → P (s ++ t)
    go s [] h = rw append-nil h
    go s (d ∷ t) h = subst P (append_assoc s (d ∷ []) t) (go (s ++ (d ∷ [])) t (more s d h))

pub digits-parts : (base : ℕ) (s t : List ℕ) → Digits base (s ++ t) → Digits base s × Digits base t
digits-parts base [] t h = (tt, h)
digits-parts base (d ∷ s) t h = ((h.0, (digits-parts base s t h.1).0), (digits-parts base s t h.1).1)

more_length : (t : List ℕ) (d : ℕ) → length (t ++ (d ∷ [])) ≡ suc (length t)
more_length t d = length-append t (d ∷ []) ∙ add-one (length t)

-- a number before the digits weighs 10, as often as there are digits
pub value_weighs : (v : ℕ) (t : List ℕ) → value_from 10 v t ≡ v * 10 ^ length t + value 10 t
value_weighs v =
    by_last (λ (t : List ℕ). value_from 10 v t ≡ v * 10 ^ length t + value 10 t)
    (rw (pow-zero 10) (omega arith))
    (λ t d e.
    value-append 10 v t (d ∷ [])
    ∙ rw (more_length t d, value-append 10 0 t (d ∷ []), pow-suc 10 (length t))
    (omega (arith, e, mul_assoc v (10 ^ length t) 10)))

-- digits are less than 1 behind as many places
pub value-below : (t : List ℕ) → Digits 10 t → value 10 t < 10 ^ length t
value-below =
    by_last (λ (t : List ℕ). Digits 10 t → value 10 t < 10 ^ length t)
    (λ h. rw (pow-zero 10) (omega arith))
    (λ t d below h.
    let p = digits-parts 10 t (d ∷ []) h in
    rw (more_length t d, value-append 10 0 t (d ∷ []), pow-suc 10 (length t)) (omega (arith, below p.0, p.1.0)))

last_place : (n d : ℕ) → (48 ≤ d) × (d < 58) → ((n * 10 + (d - 48)) / 10 ≡ n) × (digit 10 (n * 10 + (d - 48)) ≡ d)
last_place n d h = (omega (arith, h.0, h.1), omega (arith, h.0, h.1))

-- digits behind a number are its lowest places
pub padded-of-value : (v : ℕ) (t : List ℕ) → Digits 10 t → padded 10 (length t) (value_from 10 v t) ≡ t
padded-of-value v =
    by_last (λ (t : List ℕ). Digits 10 t → padded 10 (length t) (value_from 10 v t) ≡ t)
    (λ h. refl)
    (λ t d same h.
    let p = digits-parts 10 t (d ∷ []) h in
    let k = last_place (value_from 10 v t) d p.1.0 in
    rw (more_length t d, value-append 10 v t (d ∷ [])) (rw (k.0, k.1) (ap (λ (s : List ℕ). s ++ (d ∷ [])) (same p.0))))

-- digits with no leading zero are the decimal number
abbrev Written : List ℕ → Type 0
Written t = (decimal (value 10 t) ≡ t) × (0 < value 10 t)

written : (t : List ℕ) → Digits 10 t → 48 < first t → Written t
written = by_last (λ (t : List ℕ). Digits 10 t → 48 < first t → Written t) (λ h l. absurd (omega arith)) more
  where
    more : (t : List ℕ) (d : ℕ) → (Digits 10 t → 48 < first t → Written t) → Digits 10 (t ++ (d ∷ [])) → 48 < first (t ++ (d ∷ [])) → Written (t ++ (d ∷ []))
    more [] d same h l =
        (decimal_digit (0 * 10 + (d - 48)) (omega (arith, h.0)) ∙ ap (λ (x : ℕ). x ∷ []) (last_place 0 d h.0).1, omega arith)
    more (c ∷ t) d same h l =
        let p = digits-parts 10 (c ∷ t) (d ∷ []) h in
        let n = value 10 (c ∷ t) in
        let w : Written (c ∷ t) = same p.0 l in
        let k = last_place n d p.1.0 in
        let e : value 10 ((c ∷ t) ++ (d ∷ [])) ≡ n * 10 + (d - 48) = value-append 10 0 (c ∷ t) (d ∷ []) in (
          ap decimal e ∙ decimal_step (n * 10 + (d - 48)) (omega (arith, w.1))
              ∙ ap₂ (λ (m x : ℕ). decimal m ++ (x ∷ [])) k.0 k.1
              ∙ ap (λ (s : List ℕ). s ++ (d ∷ [])) w.0,
          omega (arith, e, w.1),
        )

pub decimal-of-value : (t : List ℕ) → Digits 10 t → (t ≡ 48 ∷ []) ⊎ (48 < first t) → decimal (value 10 t) ≡ t
decimal-of-value t h (inl e) = rw e decimal-zero
decimal-of-value t h (inr l) = (written t h l).0
