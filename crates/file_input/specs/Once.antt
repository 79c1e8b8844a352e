-- What one read of a reader takes of the bytes that it has left, where those are known.
-- Assumes nothing.
use Rattle.std.specs.Prelude.{List, ◌≡◌, ℕ, ◌<◌, length, take, Some, None}
use Rattle.std.specs.Io.KnownBytes.{Consumes, IsAtEnd}
use Rattle.std.specs.declared.option.Option.{Option}

-- the bytes that stand at the buffer's start, of which there are none only at the end or without room
abbrev pub TakesOnce : Option ℕ → Option (List ℕ) → Option (List ℕ) → List ℕ → Type 0
TakesOnce (Some n) left rest after = Consumes left rest (take n after) × (n ≡ 0 → 0 < length after → IsAtEnd rest)
TakesOnce None left rest after = Unit {0}
