-- What is told of a figure and a word: which refusal, by the one order, and which reason.
-- Assumes nothing.
use Rattle.std.specs.Prelude.{◌≡◌, refl, ℕ, ℤ, Option, Some, None, Ok, Result}
use Rattle.std.proofs.Common.{sym, ap, ◌∙◌, arith}
use Rattle.records.specs.declared.Record.{Record}
use Rattle.labels.specs.Assignment.{Assignment}
use Rattle.labels.specs.Label.{label_of}
use Rattle.decode.specs.Decode.{decode_with}
use Rattle.quantities.specs.declared.Quantity.{Quantity}
use Rattle.figures.specs.Coding.{quantity_at}
use Rattle.figures.specs.Words.{quantity_of_label, label_of_quantity}
use Rattle.measurements.specs.Measurements.{measurement_of}
use Rattle.agreements.specs.Agreeing.{held, accepted-held}
use Rattle.reasons.specs.declared.Reason.{Reason}
use Rattle.explanations.specs.Statements.{Measured}
use Rattle.refusals.specs.declared.Refusal.{Refusal}

pub clash : {A : Type 0} → ◌≡◌ {A = ℕ} 0 1 → A
clash z = absurd (omega arith)

pub because_once : (r s : Reason) → ◌≡◌ {A = Result Reason Refusal} (Ok r) (Ok s) → r ≡ s
because_once r s e = cc

module _ (a : Assignment) (w : ℕ) where
  -- an accepted word measures a count exactly where its label is that of a quantity
  pub measured : (r : Record) → decode_with a w ≡ Ok r → {q : Quantity} {c : ℤ} → measurement_of r.body ≡ Some (q, c) → Measured a w
  measured r e {q} {c} m = go (quantity_at a (label_of w)) refl (sym (accepted-held a w r e) ∙ m)
    where
      go : (x : Option Quantity) → quantity_at a (label_of w) ≡ x → held x w ≡ Some (q, c) → Measured a w
      go (Some p) d k = (p, sym (label_of_quantity a (label_of w) p d))
      go None d k = clash (cc)

  pub unmeasured : (r : Record) → decode_with a w ≡ Ok r → measurement_of r.body ≡ None → Measured a w → ⊥
  unmeasured r e m (q, l) =
      let k : None ≡ held (Some q) w =
      sym m ∙ accepted-held a w r e ∙ ap (λ (x : Option Quantity). held x w) (ap (quantity_at a) l ∙ quantity_of_label a q) in
      clash (cc)
