-- The definitions of `Nearest`, by the cases of their tests.
use Rattle.std.specs.Prelude.{◌≡◌, ◌≢◌, ◌⊎◌, Bool, true, false, not, ℕ, ◌-◌, ◌%◌, ◌≤◌, ◌<◌, min, ℤ, nat_abs, Some, None}
use Rattle.std.proofs.Common.{inl, inr, eq-or-lt_of_le, arith, le-leb}
use Rattle.std.proofs.lemmas.Bool.{lt-leb}
use Rattle.rounding.specs.Parts.{is_negative, with_sign}
use Rattle.quantities.specs.declared.Quantity.{Quantity}
use Rattle.quantities.specs.declared.Scale.{Scale}
use Rattle.quantities.specs.Scale.{scale_of, on_circle, last_count}
use Rattle.quantities.specs.Nearest.{reach, rounded_count, line_nearest, turn_counts, wrap, farthest, circle_nearest, nearest_count}

module _ (s : Scale) (negative : Bool) (size : ℕ) where
  pub line_within : size ≤ reach s negative → line_nearest s negative size ≡ Some (with_sign negative (min (rounded_count s size) (last_count s negative)))
  unfolding line_nearest
  line_within h = rw (le-leb size (reach s negative) h)

  pub line_beyond : reach s negative < size → line_nearest s negative size ≡ None
  unfolding line_nearest
  line_beyond h = rw (lt-leb size (reach s negative) h)

  pub circle_within : size ≤ farthest negative → circle_nearest s negative size ≡ Some (wrap s negative (rounded_count s size))
  unfolding circle_nearest
  circle_within h = rw (le-leb size (farthest negative) h)

  pub circle_beyond : farthest negative < size → circle_nearest s negative size ≡ None
  unfolding circle_nearest
  circle_beyond h = rw (lt-leb size (farthest negative) h)

  -- here the size is a count
  pub wrap_same : size % turn_counts s ≤ last_count s negative → wrap s negative size ≡ with_sign negative (size % turn_counts s)
  unfolding wrap
  wrap_same h = rw (le-leb (size % turn_counts s) (last_count s negative) h)

  pub wrap_other : last_count s negative < size % turn_counts s → wrap s negative size ≡ with_sign (not negative) (turn_counts s - size % turn_counts s)
  unfolding wrap
  wrap_other h = rw (lt-leb (size % turn_counts s) (last_count s negative) h)

module _ (q : Quantity) (figure : ℤ) where
  pub nearest_circle : on_circle q ≡ true → nearest_count q figure ≡ circle_nearest (scale_of q) (is_negative figure) (nat_abs figure)
  unfolding nearest_count
  nearest_circle e = rw e

  pub nearest_line : on_circle q ≡ false → nearest_count q figure ≡ line_nearest (scale_of q) (is_negative figure) (nat_abs figure)
  unfolding nearest_count
  nearest_line e = rw e

pub less_if_other : {a b : ℕ} → a ≤ b → a ≢ b → a < b
less_if_other {a} {b} h ne = go (eq-or-lt_of_le h)
  where
    go : (a ≡ b) ⊎ (a < b) → a < b
    go (inl e) = absurd (ne e)
    go (inr l) = l

pub count_same : {a b : ℤ} → Some a ≡ Some b → a ≡ b
count_same e = cc

pub refused-not-count : {c : ℤ} → None ≡ Some c → ⊥
refused-not-count e = let z : ◌≡◌ {A = ℕ} 0 1 = cc in omega arith
