-- What the proof of `reason_of` cites: one reason after the other does not agree, and the next does.
-- Assumes nothing.
use mathlib.Core.Path.{◌≡◌, sym, ap, ap₂, ◌∙◌}
use mathlib.Core.Bool.{Bool, true, false, cond}
use mathlib.Core.List.{List, ◌∷◌}
use lib.IntN.{ℤ}
use Rattle.quantities.specs.declared.Quantity.{Quantity}
use Rattle.reasons.specs.Scaled.{scaled_agrees, scaled_for, asked, first_of, reason_of}
use Rattle.reasons.specs.declared.Reason.{Reason}
use Rattle.explanations.specs.Explanations.{count_agrees}

-- The code's numbers are the count and the figure that their bits hold.
module _ (q : Quantity) {d count y figure : ℤ} (same_count : d ≡ count) (same : y ≡ figure) (r : Reason) {b : Bool}
    (told : b ≡ scaled_agrees (count_agrees q d) (scaled_for r y)) where
  tested : {x : Bool} → b ≡ x → scaled_agrees (count_agrees q count) (scaled_for r figure) ≡ x
  tested e = ap₂ (λ (c z : ℤ). scaled_agrees (count_agrees q c) (scaled_for r z)) (sym same_count) (sym same) ∙ sym told ∙ e

  pub yes : (rs : List Reason) → b ≡ true → r ≡ first_of (λ (s : Reason). scaled_agrees (count_agrees q count) (scaled_for s figure)) (r ∷ rs)
  yes rs e = ap (λ (t : Bool). cond t r (first_of (λ (s : Reason). scaled_agrees (count_agrees q count) (scaled_for s figure)) rs)) (sym (tested e))

  pub no : {found : Reason} (rs : List Reason) → b ≡ false → found ≡ first_of (λ (s : Reason). scaled_agrees (count_agrees q count) (scaled_for s figure)) rs
      → found ≡ first_of (λ (s : Reason). scaled_agrees (count_agrees q count) (scaled_for s figure)) (r ∷ rs)
  no rs e rest = rest ∙ ap (λ (t : Bool). cond t r (first_of (λ (s : Reason). scaled_agrees (count_agrees q count) (scaled_for s figure)) rs)) (sym (tested e))

pub first : (q : Quantity) (count figure : ℤ) {r : Reason} → r ≡ first_of (λ (s : Reason). scaled_agrees (count_agrees q count) (scaled_for s figure)) asked → r ≡ reason_of (count_agrees q count) figure
unfolding reason_of
first q count figure e = e
