-- Document 01's table of labels: each kind's label, in octal, and its zero bits.
-- Assumes nothing.
use Rattle.std.specs.Prelude.{◌≡◌, refl, Some}
use Rattle.records.specs.All.{agree}
use Rattle.records.specs.declared.Kind.{Kind}
use Rattle.labels.specs.Table.{label_number, row_of, rows, find_kind}

-- the label of every kind finds that kind
pub found : (k : Kind) → find_kind rows (label_number k) ≡ Some k
unfolding row_of
found = agree (λ k. find_kind rows (label_number k)) Some refl
