-- The numbers of a check and of a writing.
-- Assumes nothing.
use Rattle.std.specs.Prelude.{Result, Ok, Err, ℕ}
use Rattle.refusals.specs.Numbers.{number_of}
use Rattle.refusals.specs.declared.Refusal.{Refusal}
use Rattle.flat_places.specs.declared.FlatPlace.{FlatPlace}

-- nothing beside a legal sheet; beside a refusal the offset of the refused field's tag
abbrev pub flat_checked : Result Unit (Refusal × ℕ) → FlatPlace
flat_checked (Ok tt) = record { refusal = 0; offset = 0 }
flat_checked (Err (f, p)) = record { refusal = number_of f; offset = p }

-- the place after the field; beside a refusal the offset that it has
abbrev pub flat_written : Result ℕ (Refusal × ℕ) → FlatPlace
flat_written (Ok p) = record { refusal = 0; offset = p }
flat_written (Err (f, p)) = record { refusal = number_of f; offset = p }
