-- What is asked of a word before a figure is explained, in the order in which it refuses, and how the answers refuse and tell.
-- Assumes nothing.
use Rattle.std.specs.Prelude.{◌≡◌, List, [], ◌∷◌, ℕ, Result, Ok, Err}
use Rattle.std.proofs.Common.{arith}
use Rattle.records.specs.declared.Record.{Record}
use Rattle.refusals.specs.Order.{Rule, asks, Answers}
use Rattle.refusals.specs.declared.Refusal.{Refusal}
use Rattle.labels.specs.Assignment.{Assignment}
use Rattle.labels.specs.Label.{label_of}
use Rattle.decode.specs.Decode.{decode_with}
use Rattle.quantities.specs.declared.Quantity.{Quantity}
use Rattle.figures.specs.Coding.{label_for}
use Rattle.readings.specs.Readings.{reading_of}
use Rattle.readings.specs.Meaning.{HasReading}
use Rattle.reasons.specs.declared.Reason.{Reason}

-- the word is accepted, or refused with its own number
abbrev pub own_rule : Assignment → ℕ → Rule Refusal
own_rule a w = record {
  kept = (r : Record) × (decode_with a w ≡ Ok r);
  broken = λ f. decode_with a w ≡ Err f;
}

-- its label is that of one of the five quantities: 2 where it is not
abbrev pub Measured : Assignment → ℕ → Type 0
Measured a w = (q : Quantity) × (label_of w ≡ label_for a q)

-- it has a reading: 8 where it has none
abbrev pub Readable : Assignment → ℕ → Type 0
Readable a w = (r : Record) × (decode_with a w ≡ Ok r) × HasReading (reading_of r.body)

-- "the word's own number first, then 2 for a word that isn't one of the five measured ones, then 8 when it has no reading"
abbrev pub word_rules : Assignment → ℕ → List (Rule Refusal)
word_rules a w = own_rule a w ∷ asks (Measured a w) Refusal.Label ∷ asks (Readable a w) Refusal.Reach ∷ []

pub never : (f : Refusal) (r : Reason) → Err f ≡ Ok r → ⊥
never f r e = let z : ◌≡◌ {A = ℕ} 0 1 = cc in omega arith

pub one_refusal : (f g : Refusal) → ◌≡◌ {A = Result Reason Refusal} (Err f) (Err g) → f ≡ g
one_refusal f g e = cc

-- an answer is a refusal or a reason
abbrev pub explaining : Answers Refusal (Result Reason Refusal)
explaining = record {
  refuse = Err;
  accepts = λ answer. (r : Reason) × (answer ≡ Ok r);
  apart = λ f h. never f h.0 h.1;
  once = one_refusal;
}
