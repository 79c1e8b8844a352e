-- The three demands in their order, for document 01's labels. Each sentence stands in its record as a comment, beside what states it.
-- Assumes nothing.
use Rattle.std.specs.Prelude.{◌≡◌, ◌⊎◌, ◌↔◌}
use Rattle.records.specs.declared.Body.{Body}
use Rattle.records.specs.declared.Kind.{Kind}
use Rattle.statuses.specs.declared.Status.{Status}
use Rattle.labels.proofs.Assignment.{document01}
use Rattle.readings.specs.Readings.{reading_of}
use Rattle.readings.specs.Meaning.{HasStatus, HasReading, IsTest}
use Rattle.quantities.specs.Nearest.{millionths_of}
use Rattle.figures.specs.Coding.{coded_of}
use Rattle.figures.specs.Demand.{Demand3, Order}
use Rattle.demands.specs.EntryPoints.{Demand1}
use Rattle.demands.specs.Table.{table}
use Rattle.demands.specs.Words.{Demand2}
use Rattle.demands.specs.Figures.{CodedWord}

pub record Demands : Type 0 where
  -- 1. "Every entry point takes whatever number, word or sheet comes and ends. Bad input gets the refusal number of document 01, no record, and no byte written in a buffer we lent."
  pub first : Demand1
  -- 2. "A word is accepted exactly when the layouts in document 01, drawn from the VOR, ILS and MLS standards, allow it. Each accepted word has one record and each legal record one word, and they give each other back."
  pub second : Demand2 document01
  -- The labels are those of document 01's table; `Allowed` has its zero bits, and `Holds` its fields.
  pub labels : (k : Kind) → document01.label k ≡ (table k).label
  -- "A reading is shown exactly when the status says ready or test." It is marked as a test's exactly when the status says test. `Demand2` says it of a word's bits.
  pub shown : (b : Body) → HasReading (reading_of b) ↔ (HasStatus b Status.Ready ⊎ HasStatus b Status.Test)
  pub marked : (b : Body) → IsTest (reading_of b) ↔ HasStatus b Status.Test
  -- 3. "Take any of the five measured quantities (azimuth, course, glide, and the two MLS deviations), any legal source and any figure in whole millionths that 64 bits can hold. .."
  pub third : Demand3 document01 coded_of millionths_of
  -- the coded word by its bits, and the refusals before 8
  pub coded : CodedWord
  pub order : Order document01 coded_of
