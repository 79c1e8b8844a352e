-- Demand 3 for document 01's labels: any of the five measured quantities, any legal source and any figure. Its sentences stand one by one in
-- the record `Demand3` (crate `figures`, specs/Demand.antt), with the order of refusals beside it.
-- Assumes nothing.
use Rattle.std.specs.Prelude.{◌≡◌, ℕ, ◌≤◌, ℤ, Ok}
use Rattle.labels.proofs.Assignment.{document01}
use Rattle.quantities.specs.Nearest.{millionths_of}
use Rattle.quantities.specs.declared.Quantity.{Quantity}
use Rattle.figures.specs.Coding.{label_for, ready_record, coded_of}
use Rattle.figures.specs.Demand.{Demand3, Order, count_bits}
use Rattle.figures.specs.Theorems.{order_of}
use Rattle.figures.proofs.Theorems.{demand3_of}
use Rattle.demands.specs.Allowed.{Allowed}
use Rattle.demands.specs.Holds.{Holds}

pub demand3 : Demand3 document01 coded_of millionths_of
demand3 = demand3_of

pub refusal_order : Order document01 coded_of
refusal_order = order_of

-- "The word has that label and source, status ready and every field but the count zero": the word that a figure is coded to is allowed, and its bits hold just that.
abbrev pub CodedWord : Type 0
CodedWord = (q : Quantity) (source : ℕ) → source ≤ 3 → (figure : ℤ) (w : ℕ) → coded_of (label_for document01 q) source figure ≡ Ok w
    → Allowed document01 w × Holds document01 w (ready_record q source (count_bits q w))
