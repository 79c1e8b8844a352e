-- A one-to-one assignment of labels to kinds, over which decoding and encoding are stated. Document 01's is the one that the words have.
-- Assumes nothing.
use Rattle.std.specs.Prelude.{refl, ◌<◌, ltb}
use Rattle.std.proofs.Common.{ltb→lt}
use Rattle.records.specs.All.{kinds, every}
use Rattle.records.specs.declared.Kind.{Kind}
use Rattle.labels.specs.Table.{label_number, rows, find_kind, only}
use Rattle.labels.proofs.Table.{found}
use Rattle.labels.specs.Assignment.{Assignment}

pub short : (k : Kind) → label_number k < 256
short k = ltb→lt (label_number k) 256 (every (λ k. ltb (label_number k) 256) refl k)

-- document 01's labels
abbrev pub document01 : Assignment
document01 = record { label = label_number; short = short; kind = find_kind rows; found = found; only = only kinds }
