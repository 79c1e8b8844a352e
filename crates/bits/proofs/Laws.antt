-- The laws of every layout: joining the values that were split gives the word back where its zero bits are zero, splitting what was joined
-- gives the values back, what is joined is bounded, and the mask finds the zero bits. Each is by one step along the segments.
-- Assumes nothing.
use Rattle.std.specs.Prelude.{◌≡◌, List, [], ◌∷◌, ◌↔◌, ℕ, ◌+◌, ◌-◌, ◌/◌, ◌^◌, T, eqb}
use Rattle.std.proofs.Common.{sym, ◌∙◌, subst, mod-lt, mod-eq_of_lt, div-one, eqb-true, eq-eqb, pow_pos}
use Rattle.std.proofs.lemmas.Nat.{and_mask}
use Rattle.std.proofs.Math.Pow.{ones_lt}
use Rattle.std.specs.Int.Bits.{bit_and, and_zero_r}
use Rattle.bits.specs.Fields.{digits}
use Rattle.bits.specs.Layout.{Segment, part, gap, contiguous, clear, Clear, mask}
use Rattle.bits.specs.Laws.{same, starts, next, mask_step, clear_test}

-- a word shares no bit with the mask just where its zero bits are zero
pub mask-clear : (o : ℕ) (l : List Segment) (w : ℕ) → T (contiguous o l) → (bit_and (w / 2 ^ o) (mask l) ≡ 0) ↔ Clear l w
mask-clear o [] w t = (λ e. tt, λ z. and_zero_r (w / 2 ^ o))
mask-clear o (part p n ∷ l) w t =
    let s = mask_step o p n l w 0 (starts o p _ t) (pow_pos n) (mask-clear (p + n) l w (next o p _ t)) in
    (λ e. (s.0 e).1, λ z. s.1 (and_zero_r (digits p n w), z))
mask-clear o (gap p n ∷ l) w t =
    let s = mask_step o p n l w (2 ^ n - 1) (starts o p _ t) (ones_lt n) (mask-clear (p + n) l w (next o p _ t)) in
    let d = and_mask (digits p n w) n ∙ mod-eq_of_lt (mod-lt (w / 2 ^ p) (pow_pos n)) in
    (λ e. (sym d ∙ (s.0 e).0, (s.0 e).1), λ z. s.1 (d ∙ z.0, z.1))

-- the mask does that test at once
pub mask_test : (l : List Segment) (w : ℕ) → T (contiguous 0 l) → eqb (bit_and w (mask l)) 0 ≡ clear l w
mask_test l w t =
    let m : (bit_and w (mask l) ≡ 0) ↔ Clear l w =
    subst (λ (x : ℕ). (bit_and x (mask l) ≡ 0) ↔ Clear l w) (div-one w) (mask-clear 0 l w t) in
    same (eqb (bit_and w (mask l)) 0) (clear l w)
    (λ e. (clear_test l w).1 (m.0 (eqb-true (bit_and w (mask l)) 0 e)))
    (λ e. eq-eqb (bit_and w (mask l)) 0 (m.1 ((clear_test l w).0 e)))
