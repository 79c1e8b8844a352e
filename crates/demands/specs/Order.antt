-- Why a word is refused: the first rule that it breaks, in document 01's order 1, 2, 3, 5, 4, 6, 7; and how decoding answers.
-- Assumes nothing.
use Rattle.std.specs.Prelude.{◌≡◌, List, [], ◌∷◌, ℕ, ◌%◌, Result, Ok, Err}
use Rattle.std.proofs.Common.{arith}
use Rattle.std.specs.Int.Count.{ones}
use Rattle.records.specs.declared.Kind.{Kind}
use Rattle.records.specs.declared.Record.{Record}
use Rattle.refusals.specs.Order.{Rule, Answers}
use Rattle.refusals.specs.Order as order
use Rattle.refusals.specs.declared.Refusal.{Refusal}
use Rattle.labels.specs.Label.{label_of}
use Rattle.labels.specs.Assignment.{Assignment}
use Rattle.demands.specs.Table.{ZeroBits}
use Rattle.demands.specs.Allowed.{asks}

-- what holds of the kind that the word's label stands for
abbrev pub OfItsKind : Assignment → ℕ → (Kind → Type 0) → Type 0
OfItsKind a w p = (k : Kind) → label_of w ≡ a.label k → p k

-- the rules of a word's fields
abbrev pub field_rules : Assignment → ℕ → List (Rule Refusal)
field_rules a w =
    order.asks (OfItsKind a w (λ k. (asks k w).digits)) Refusal.Digit
    ∷ order.asks (OfItsKind a w (λ k. (asks k w).codes)) Refusal.Code
    ∷ order.asks (OfItsKind a w (λ k. (asks k w).value)) Refusal.Value
    ∷ order.asks (OfItsKind a w (λ k. (asks k w).angle)) Refusal.AngleParity
    ∷ []

-- the rules of a word
abbrev pub word_rules : Assignment → ℕ → List (Rule Refusal)
word_rules a w =
    order.asks (ones w % 2 ≡ 1) Refusal.Parity
    ∷ order.asks ((k : Kind) × (label_of w ≡ a.label k)) Refusal.Label
    ∷ order.asks (OfItsKind a w (λ k. ZeroBits k w)) Refusal.ZeroBit
    ∷ field_rules a w

-- ---- the answer

-- no answer both refuses and has a record, and a refusal has one number
pub never : (r : Record) (f : Refusal) → Err f ≡ Ok r → ⊥
never r f e = let z : ◌≡◌ {A = ℕ} 0 1 = cc in omega arith

pub one_refusal : (f g : Refusal) → ◌≡◌ {A = Result Record Refusal} (Err f) (Err g) → f ≡ g
one_refusal f g e = cc

-- a word is refused, or has a record
abbrev pub decoded : Answers Refusal (Result Record Refusal)
decoded = record {
  refuse = Err;
  accepts = λ d. (r : Record) × (d ≡ Ok r);
  apart = λ f h. never h.0 f h.1;
  once = one_refusal;
}
