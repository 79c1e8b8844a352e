-- A part of a text by the place of a byte: what stands before the first goes up to it, and what stands behind it starts at the next.
-- Assumes nothing.
use mathlib.Core.Path.{◌≡◌, refl, sym, ap, ◌∙◌}
use mathlib.Core.Bool.{Bool, true, false, cond, not}
use mathlib.Core.List.{List, [], ◌∷◌}
use Prim.Native.Nat.{ℕ, suc, ◌+◌, ◌-◌, ◌≤◌}
use native.Mathlib.Numerals.{add-one}
use native.Mathlib.Omega.{arith}
use borrow.Author.Tests.{ltb-false}
use lib.Dec.{eqb}
use lib.ListN.{length, take, drop, length-drop, drop_of_length-le}
use lib.Seq.{take_all}
use Rattle.std.specs.Prelude.{Some, None, position, nat_lt}
use Rattle.std.specs.List.{position_or_len}
use Rattle.typed_texts.specs.Texts.{text_before, text_behind}

-- the place of the first x, or the end
abbrev pub place : ℕ → List ℕ → ℕ
place x t = position_or_len (λ c. eqb c x) t

before_taken : (x : ℕ) (t : List ℕ) → take (place x t) t ≡ text_before x t
before_taken x [] = refl
before_taken x (c ∷ t) = go (eqb c x) (before_taken x t)
  where
    go : (b : Bool) → take (place x t) t ≡ text_before x t → take (cond (not b) (1 + place x t) 0) (c ∷ t) ≡ cond b [] (c ∷ text_before x t)
    go true e = refl
    go false e = let next : 1 + place x t ≡ suc (place x t) = omega arith in ap (λ (n : ℕ). take n (c ∷ t)) next ∙ ap (λ (r : List ℕ). c ∷ r) e

behind_dropped : (x : ℕ) (t : List ℕ) → drop (suc (place x t)) t ≡ text_behind x t
behind_dropped x [] = refl
behind_dropped x (c ∷ t) = go (eqb c x) (behind_dropped x t)
  where
    go : (b : Bool) → drop (suc (place x t)) t ≡ text_behind x t → drop (cond (not b) (1 + place x t) 0) t ≡ cond b t (text_behind x t)
    go true e = refl
    go false e = let next : 1 + place x t ≡ suc (place x t) = omega arith in ap (λ (n : ℕ). drop n t) next ∙ e

module _ (x : ℕ) (t : List ℕ) where
  is_place : (i : ℕ) → position (λ c. eqb c x) t ≡ Some i → i ≡ place x t
  is_place i = go (nat_lt (place x t) (length t))
    where
      go : (b : Bool) → cond b (Some (place x t)) None ≡ Some i → i ≡ place x t
      go true e = cc
      go false e = cc

  is_end : position (λ c. eqb c x) t ≡ None → length t ≤ place x t
  is_end = go (nat_lt (place x t) (length t)) refl
    where
      go : (b : Bool) → nat_lt (place x t) (length t) ≡ b → cond b (Some (place x t)) None ≡ None → length t ≤ place x t
      go true h e = cc
      go false h e = omega (arith, ltb-false)

  pub before_at : (i : ℕ) → position (λ c. eqb c x) t ≡ Some i → take i t ≡ text_before x t
  before_at i e = rw (is_place i e) (before_taken x t)

  pub all_before : position (λ c. eqb c x) t ≡ None → t ≡ text_before x t
  all_before e = sym (take_all (place x t) t (is_end e)) ∙ before_taken x t

  pub behind_at : (i : ℕ) → position (λ c. eqb c x) t ≡ Some i → drop (i + 1) t ≡ text_behind x t
  behind_at i e = ap (λ (n : ℕ). drop n t) (add-one i ∙ ap suc (is_place i e)) ∙ behind_dropped x t

  pub none_behind : position (λ c. eqb c x) t ≡ None → [] ≡ text_behind x t
  none_behind e = let h = is_end e in sym (drop_of_length-le t (let k : length t ≤ suc (place x t) = omega arith in k)) ∙ behind_dropped x t

-- the rest of a text from a place on
pub rest : (t : List ℕ) (i : ℕ) → take (length t - i) (drop i t) ≡ drop i t
rest t i = take_all (length t - i) (drop i t) (omega (arith, length-drop i t))
