-- The three demands in their order, for document 01's labels. Each sentence stands in its record as a comment, beside what states it.
-- Assumes nothing.
use Rattle.labels.proofs.Assignment.{document01}
use Rattle.readings.proofs.Meaning.{reading_exactly, test_exactly}
use Rattle.demands.proofs.EntryPoints.{demand1}
use Rattle.demands.specs.Table.{labels}
use Rattle.demands.proofs.Words.{demand2}
use Rattle.demands.specs.Figures.{demand3, refusal_order}
use Rattle.demands.proofs.Figures.{coded-word}
use Rattle.demands.specs.Demands.{Demands}

-- All three hold.
pub demands : Demands
demands = record {
  first = demand1;
  second = demand2 document01;
  labels = labels;
  shown = reading_exactly;
  marked = test_exactly;
  third = demand3;
  coded = coded-word;
  order = refusal_order;
}
