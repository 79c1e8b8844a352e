-- The part of a sheet up to an end: where the sheet is shorter, and that a field that stands in it ends within it, with its content.
-- Assumes nothing.
use Rattle.std.specs.Prelude.{◌≡◌, refl, Bool, true, false, List, ℕ, ◌+◌, ◌-◌, ◌≤◌, ◌<◌, min, ltb, length, take, drop}
use Rattle.std.proofs.Common.{sym, ap, ◌∙◌, arith, ltb-true, ltb-false, take_all, take-add, drop_at, length-take-le}

-- no part is longer than the sheet
pub take_min : (e : ℕ) (s : List ℕ) → take (min e (length s)) s ≡ take e s
take_min e s = by (ltb e (length s)) refl
  where
    by : (b : Bool) → ltb e (length s) ≡ b → take (min e (length s)) s ≡ take e s
    by true h =
        let below : e < length s = ltb-true e (length s) h in
        let same : min e (length s) ≡ e = omega arith in
        ap (λ (n : ℕ). take n s) same
    by false h =
        let past : length s ≤ e = ltb-false e (length s) h in
        let same : min e (length s) ≡ length s = omega arith in
        ap (λ (n : ℕ). take n s) same ∙ take_all (length s) s (omega arith) ∙ sym (take_all e s past)

-- `n` bytes from a place on are those up to `n` past it
pub drop-take : (a n : ℕ) (s : List ℕ) → a ≤ length s → drop a (take (a + n) s) ≡ take n (drop a s)
drop-take a n s h = ap (drop a) (take-add a n s) ∙ drop_at (take a s) (take n (drop a s)) a (length-take-le a s h)

-- a field that stands at a place of the part up to an end: its own end, and its content
pub record Within (s : List ℕ) (p e n : ℕ) : Type 0 where
  pub enclosed : p + 3 + n ≤ e
  pub in_sheet : p + 3 + n ≤ length s
  pub content : take n (drop 3 (drop p (take e s))) ≡ drop (p + 3) (take (p + 3 + n) s)
