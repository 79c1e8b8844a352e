-- What printing gives as numbers is coded back, as numbers, to the count, under every legal source.
-- Assumes nothing.
use Rattle.std.specs.Prelude.{◌≡◌, true, ℤ, Option}
use Rattle.std.proofs.Common.{ap, ◌∙◌}
use Rattle.labels.proofs.Assignment.{document01}
use Rattle.quantities.specs.Nearest.{millionths_of}
use Rattle.quantities.specs.declared.Quantity.{Quantity}
use Rattle.figures.specs.Coding.{label_for}
use Rattle.figures.specs.Words.{quantity_of_label}
use Rattle.flat_figures.specs.Printing.{holds, printed_measured, printed_of, held}

-- a legal count of a measured label is printed
pub count-printed : (q : Quantity) (c : ℤ) → holds q c ≡ true → printed_of (label_for document01 q) c ≡ record { refusal = 0; millionths = millionths_of q c }
count-printed q c h = ap (λ (m : Option Quantity). printed_measured m c) (quantity_of_label document01 q) ∙ held q c h
