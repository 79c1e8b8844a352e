-- The number 0 in the field of the refusal tells a record from a refusal, and the numbers of an accepted word are no other word's.
-- Assumes nothing.
use Rattle.std.specs.Prelude.{◌≡◌, refl, Result, Ok, Err}
use Rattle.records.specs.declared.Record.{Record}
use Rattle.refusals.specs.declared.Refusal.{Refusal}
use Rattle.flat_records.specs.Numbers.{flat_of}
use Rattle.flat_laws.specs.Back.{heads}
use Rattle.flat_laws.specs.Words.{no_number}

-- an accepted word has the number 0
pub accepted-number : (r : Record) → (flat_of (Ok r)).refusal ≡ 0
accepted-number r = (heads r.source r.body).0

-- and the number 0 an accepted word
pub number-accepted : (d : Result Record Refusal) → (flat_of d).refusal ≡ 0 → (r : Record) × (d ≡ Ok r)
number-accepted (Ok r) e = (r, refl)
number-accepted (Err f) e = absurd (no_number f e)
