-- Demand 3 for document 01's labels: any of the five measured quantities, any legal source and any figure. Its sentences stand one by one in
-- the record `Demand3` (crate `figures`, specs/Demand.antt), with the order of refusals beside it.
-- Assumes nothing.
use Rattle.std.specs.Prelude.{◌≡◌, ◌⊎◌, ℕ, Ok, Err, Result}
use Rattle.std.proofs.Common.{sym, subst, ◌∙◌, inl, inr, arith}
use Rattle.refusals.specs.declared.Refusal.{Refusal}
use Rattle.labels.proofs.Assignment.{document01}
use Rattle.figures.specs.Coding.{label_for, ready_record, coded_of}
use Rattle.figures.specs.Demand.{ReadyWord, count_bits}
use Rattle.demands.specs.Allowed.{Allowed}
use Rattle.demands.specs.Holds.{Holds}
use Rattle.demands.proofs.Words.{demand2}
use Rattle.demands.specs.Figures.{demand3, CodedWord}

pub coded-word : CodedWord
coded-word q source s figure w e = by (demand3.rest_coded q source s figure)
  where
    ready : ReadyWord document01 q source w → Allowed document01 w × Holds document01 w (ready_record q source (count_bits q w))
    ready h = ((demand2 document01).held w (ready_record q source (count_bits q w)) h.size).0 h.accepted

    by : (coded_of (label_for document01 q) source figure ≡ Err Refusal.Reach)
        ⊎ ((v : ℕ) × (coded_of (label_for document01 q) source figure ≡ Ok v) × ReadyWord document01 q source v)
        → Allowed document01 w × Holds document01 w (ready_record q source (count_bits q w))
    by (inl n) = let clash : Err Refusal.Reach ≡ Ok w = sym n ∙ e in absurd (let z : ◌≡◌ {A = ℕ} 0 1 = cc in omega arith)
    by (inr h) =
        let same : ◌≡◌ {A = Result ℕ Refusal} (Ok h.0) (Ok w) = sym h.1 ∙ e in
        let word : h.0 ≡ w = cc in
        ready (subst (ReadyWord document01 q source) word h.2)
