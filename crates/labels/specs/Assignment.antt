-- A one-to-one assignment of labels to kinds, over which decoding and encoding are stated. Document 01's is the one that the words have.
-- Assumes nothing.
use Rattle.std.specs.Prelude.{◌≡◌, ℕ, ◌<◌, Option, Some}
use Rattle.records.specs.declared.Kind.{Kind}
use Rattle.labels.specs.Table.{only}

pub record Assignment : Type 0 where
  -- the label of a kind, a number of 8 bits
  pub label : Kind → ℕ
  pub short : (k : Kind) → label k < 256
  -- the kind of a label
  pub kind : ℕ → Option Kind
  pub found : (k : Kind) → kind (label k) ≡ Some k
  pub only : (l : ℕ) (k : Kind) → kind l ≡ Some k → label k ≡ l
