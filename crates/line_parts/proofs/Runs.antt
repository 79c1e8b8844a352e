-- A run by its length: it goes on as far as the bytes belong to it, and the text from there on is what stands behind it.
-- Assumes nothing.
use mathlib.Core.Path.{◌≡◌, refl, ap, ◌∙◌}
use mathlib.Core.Bool.{Bool, true, false, cond}
use mathlib.Core.List.{List, [], ◌∷◌}
use Prim.Native.Nat.{ℕ, suc, ◌+◌, ◌-◌, ◌≤◌}
use native.Mathlib.Omega.{arith}
use lib.ListN.{length, take, drop, length-drop}
use lib.Seq.{take_all}
use Rattle.std.specs.List.{prefix_len}
use Rattle.typed_lines.specs.Lines.{in_run, run_of, behind_run}

-- the length of a run, counted byte by byte
pub run_is_prefix : (blanks : Bool) (t : List ℕ) → length (run_of blanks t) ≡ prefix_len (in_run blanks) t
run_is_prefix blanks [] = refl
run_is_prefix blanks (c ∷ t) = by (in_run blanks c) (run_is_prefix blanks t)
  where
    by : (b : Bool) → length (run_of blanks t) ≡ prefix_len (in_run blanks) t → length (cond b (c ∷ run_of blanks t) []) ≡ cond b (1 + prefix_len (in_run blanks) t) 0
    by true e = omega arith
    by false e = refl

-- ---- the parts that the code takes

run_within : (blanks : Bool) (t : List ℕ) → length (run_of blanks t) ≤ length t
run_within blanks [] = omega arith
run_within blanks (c ∷ t) = by (in_run blanks c) (run_within blanks t)
  where
    by : (b : Bool) → length (run_of blanks t) ≤ length t → length (cond b (c ∷ run_of blanks t) []) ≤ suc (length t)
    by true h = omega arith
    by false h = omega arith

run_taken : (blanks : Bool) (t : List ℕ) → take (length (run_of blanks t)) t ≡ run_of blanks t
run_taken blanks [] = refl
run_taken blanks (c ∷ t) = by (in_run blanks c) (run_taken blanks t)
  where
    by : (b : Bool) → take (length (run_of blanks t)) t ≡ run_of blanks t → take (length (cond b (c ∷ run_of blanks t) [])) (c ∷ t) ≡ cond b (c ∷ run_of blanks t) []
    by true e = ap (λ (r : List ℕ). c ∷ r) e
    by false e = refl

run_dropped : (blanks : Bool) (t : List ℕ) → drop (length (run_of blanks t)) t ≡ behind_run blanks t
run_dropped blanks [] = refl
run_dropped blanks (c ∷ t) = by (in_run blanks c) (run_dropped blanks t)
  where
    by : (b : Bool) → drop (length (run_of blanks t)) t ≡ behind_run blanks t → drop (length (cond b (c ∷ run_of blanks t) [])) (c ∷ t) ≡ cond b (behind_run blanks t) (c ∷ t)
    by true e = e
    by false e = refl

module _ (blanks : Bool) (t : List ℕ) (i : ℕ) (e : i ≡ length (run_of blanks t)) where
  pub place_within : i ≤ length t
  place_within = omega (arith, run_within blanks t)

  pub taken : take i t ≡ run_of blanks t
  taken = ap (λ (n : ℕ). take n t) e ∙ run_taken blanks t

  pub left : take (length t - i) (drop i t) ≡ behind_run blanks t
  left = take_all (length t - i) (drop i t) (omega (arith, length-drop i t)) ∙ ap (λ (n : ℕ). drop n t) e ∙ run_dropped blanks t
