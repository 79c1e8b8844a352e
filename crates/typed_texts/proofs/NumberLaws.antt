-- What makes the definitions of `Numbers` believable: each digit weighs a power of the base, and a number that is read is no greater than the greatest.
-- Assumes nothing.
use Rattle.std.specs.Prelude.{◌≡◌, refl, Bool, true, false, List, [], ◌∷◌, ℕ, suc, ◌+◌, ◌-◌, ◌*◌, ◌^◌, ◌≤◌, ◌<◌, ltb, leb, length}
use Rattle.std.proofs.Common.{sym, ap, ◌∙◌, arith, leb-true, ltb-false, leb-false, lt-ltb, le-ltb, le-leb}
use Rattle.std.proofs.Math.Nat.{pow-zero, pow-succ'}
use Rattle.std.proofs.lemmas.Bool.{lt-leb}
use Rattle.typed_texts.specs.Numbers.{digit_of, value_from, value_of}
use Rattle.typed_texts.specs.NumberLaws.{weigh}

-- a number before the digits weighs the base, as often as there are digits
from_weighs : (base n : ℕ) (t : List ℕ) → value_from base n t ≡ n * base ^ length t + value_of base t
from_weighs base n [] = let one : n * base ^ 0 ≡ n * 1 = ap (λ (x : ℕ). n * x) (pow-zero base) in omega arith
from_weighs base n (c ∷ t) =
    from_weighs base (n * base + digit_of c) t
    ∙ weigh base n (digit_of c) (base ^ length t) (base ^ suc (length t)) (value_of base t) (pow-succ' base (length t))
    ∙ ap (λ (x : ℕ). n * base ^ suc (length t) + x) (sym (from_weighs base (0 * base + digit_of c) t))

-- The first digit weighs the base, as often as there are digits behind it; the others are a number by themselves.
pub first_weighs : (base c : ℕ) (t : List ℕ) → value_of base (c ∷ t) ≡ digit_of c * base ^ length t + value_of base t
first_weighs base c t = ap (λ (x : ℕ). value_from base x t) (omega arith) ∙ from_weighs base (digit_of c) t

-- every byte behind `9` is a digit of 10 or more, or none
beyond : (c : ℕ) → 57 < c → 10 ≤ digit_of c
unfolding digit_of
beyond c h = go (leb c 64) (leb c 70) (leb c 96) (leb c 102) refl refl refl refl
  where
    go : (p q r s : Bool) → leb c 64 ≡ p → leb c 70 ≡ q → leb c 96 ≡ r → leb c 102 ≡ s → 10 ≤ digit_of c
    go true q r s e f g k =
        let l = leb-true c 64 e in
        simp (le-ltb c 48 (omega arith), lt-leb c 57 h, lt-ltb c 65 (omega arith)) (omega arith)
    go false true r s e f g k =
        let l = leb-false c 64 e in
        let m = leb-true c 70 f in
        simp (le-ltb c 48 (omega arith), lt-leb c 57 h, le-ltb c 65 (omega arith), le-leb c 70 m) (omega arith)
    go false false true s e f g k =
        let l = leb-false c 70 f in
        let m = leb-true c 96 g in
        simp (le-ltb c 48 (omega arith), lt-leb c 57 h, le-ltb c 65 (omega arith), lt-leb c 70 l, lt-ltb c 97 (omega arith)) (omega arith)
    go false false false true e f g k =
        let l = leb-false c 96 g in
        let m = leb-true c 102 k in
        simp (le-ltb c 48 (omega arith), lt-leb c 57 h, le-ltb c 65 (omega arith), lt-leb c 70 (omega arith), le-ltb c 97 (omega arith), le-leb c 102 m) (omega arith)
    go false false false false e f g k =
        let l = leb-false c 102 k in
        simp (le-ltb c 48 (omega arith), lt-leb c 57 h, le-ltb c 65 (omega arith), lt-leb c 70 (omega arith), le-ltb c 97 (omega arith), lt-leb c 102 l) (omega arith)

-- And no others are.
pub decimal-digits-only : (c : ℕ) → digit_of c < 10 → (48 ≤ c) × (c < 58)
unfolding digit_of
decimal-digits-only c h = go (ltb c 48) (leb c 57) refl refl
  where
    go : (a b : Bool) → ltb c 48 ≡ a → leb c 57 ≡ b → (48 ≤ c) × (c < 58)
    go true b e f = absurd (omega (arith, simp e at h))
    go false true e f = (ltb-false c 48 e, omega (arith, leb-true c 57 f))
    go false false e f = absurd (omega (arith, beyond c (leb-false c 57 f)))
