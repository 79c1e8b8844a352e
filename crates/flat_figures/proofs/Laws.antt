-- What printing gives as numbers is coded back, as numbers, to the count, under every legal source.
-- Assumes nothing.
use Rattle.std.specs.Prelude.{◌≡◌, true, ℕ, ◌≤◌, ℤ}
use Rattle.std.proofs.Common.{ap, ◌∙◌}
use Rattle.labels.proofs.Assignment.{document01}
use Rattle.quantities.specs.declared.Quantity.{Quantity}
use Rattle.figures.specs.Coding.{label_for, coded_of}
use Rattle.figures.specs.Demand.{count_bits}
use Rattle.figures.proofs.Theorems.{demand3_of}
use Rattle.flat_words.specs.Words.{flat_word}
use Rattle.flat_figures.specs.Printing.{holds, printed_of}
use Rattle.flat_figures.proofs.Printing.{held_legal}
use Rattle.flat_figures.specs.declared.FlatMillionths.{FlatMillionths}
use Rattle.flat_figures.specs.Laws.{count-printed}

-- and coded back
pub printed-back : (q : Quantity) (c : ℤ) → holds q c ≡ true → (source : ℕ) → source ≤ 3
    → (w : ℕ) × (flat_word (coded_of (label_for document01 q) source (printed_of (label_for document01 q) c).millionths) ≡ record { refusal = 0; word = w })
    × (count_bits q w ≡ c)
printed-back q c h source s =
    let back = demand3_of.codes_back q c (held_legal q c h) source s in
    let figure = ap (λ (m : FlatMillionths). coded_of (label_for document01 q) source m.millionths) (count-printed q c h) in
    (back.0, ap flat_word (figure ∙ back.1), back.2)
