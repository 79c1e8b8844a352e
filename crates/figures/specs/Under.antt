-- A quantity coded under any label of 8 bits. Under the label that an assignment gives to the quantity this is what the figure is coded to (`coded_under_lem`);
-- under another it is the same refusal, or the same word but for the label and the parity.
-- Assumes nothing.
use Rattle.std.specs.Prelude.{◌≡◌, true, ℕ, ◌+◌, ◌*◌, ◌/◌, ◌%◌, ◌^◌, ◌≤◌, ◌<◌, ℤ, Result, Ok, Err}
use Rattle.std.proofs.Common.{sym, ap, ◌∙◌, arith, lit<}
use Rattle.bits.specs.Fields.{bits}
use Rattle.bits.specs.Parity.{odd, parity_bit, parity_odd}
use Rattle.labels.specs.Label.{label_of}
use Rattle.labels.proofs.LabelLaws.{label_lt, label_low, label_twice}
use Rattle.encode.specs.Encode.{lower_as, word_as}
use Rattle.refusals.specs.declared.Refusal.{Refusal}
use Rattle.quantities.specs.declared.Quantity.{Quantity}
use Rattle.figures.specs.Coding.{ready_record}
use Rattle.figures.specs.Ready.{ready_bits, ready_lower, ready_small}

-- what coding under a label gives, beside what it gives under another: a word of this label with an odd number of ones, alike in bits 9 to 31; or the same refusal
abbrev pub Alike : ℕ → Result ℕ Refusal → Result ℕ Refusal → Type 0
Alike label (Ok w) (Ok v) = (label_of w ≡ label) × (bits 9 31 w ≡ bits 9 31 v) × (odd w ≡ true)
Alike label (Ok w) (Err g) = ⊥
Alike label (Err f) (Ok v) = ⊥
Alike label (Err f) (Err g) = f ≡ g

low : (p u b : ℕ) → b < 256 → (p * 2 ^ 31 + (u * 256 + b)) / 2 ^ 0 % 2 ^ 8 ≡ b
low p u b h = omega arith

above : (p u b : ℕ) → u < 2 ^ 23 → b < 256 → (p * 2 ^ 31 + (u * 256 + b)) / 2 ^ 8 % 2 ^ 23 ≡ u
above p u b g h = omega arith

below : (u b : ℕ) → u < 2 ^ 23 → b < 256 → u * 256 + b < 2 ^ 31
below u b g h = omega arith

module _ (q : Quantity) (source : ℕ) (c : ℤ) (s : source ≤ 3) where
  abbrev upper : ℕ
  upper = ready_bits q c * 4 + source

  upper_lt : upper < 2 ^ 23
  upper_lt = omega (arith, ready_small q c)

  word_is : (label : ℕ) → word_as label (ready_record q source c) ≡ parity_bit (lower_as label (ready_record q source c)) * 2 ^ 31 + (upper * 256 + label_of label)
  word_is label = ap (λ (x : ℕ). parity_bit (lower_as label (ready_record q source c)) * 2 ^ 31 + x) (ready_lower q label source c)

  pub word_label : (label : ℕ) → label < 256 → label_of (word_as label (ready_record q source c)) ≡ label
  word_label label h =
      sym (label_low (word_as label (ready_record q source c)))
      ∙ ap label_of (ap (bits 1 8) (word_is label) ∙ low (parity_bit (lower_as label (ready_record q source c))) upper (label_of label) (label_lt label))
      ∙ label_twice label h

  pub word_above : (label : ℕ) → bits 9 31 (word_as label (ready_record q source c)) ≡ upper
  word_above label = ap (bits 9 31) (word_is label) ∙ above (parity_bit (lower_as label (ready_record q source c))) upper (label_of label) upper_lt (label_lt label)

  pub word-odd : (label : ℕ) → odd (word_as label (ready_record q source c)) ≡ true
  word-odd label = parity_odd 31 (lower_as label (ready_record q source c)) (lit< tt) (rw (ready_lower q label source c) (below upper (label_of label) upper_lt (label_lt label)))
