-- A word's record, or its refusal: the tests in document 01's order, 1, 2, 3, 5, 4, 6, 7.
-- Assumes nothing.
use Rattle.std.specs.Prelude.{◌≡◌, true, false, ℕ, Option, Err}
use Rattle.bits.specs.Parity.{odd}
use Rattle.refusals.specs.declared.Refusal.{Refusal}
use Rattle.records.specs.declared.Kind.{Kind}
use Rattle.decode.specs.Rules.{Rules}
use Rattle.decode.specs.Decode.{judgement, decode_as}

pub digits_broken : (r : Rules) → r.digits ≡ false → judgement r ≡ Err Refusal.Digit
digits_broken r d = rw d

pub codes_broken : (r : Rules) → r.digits ≡ true → r.codes ≡ false → judgement r ≡ Err Refusal.Code
codes_broken r d c = rw (d, c)

pub parity_broken : (l : Option Kind) (w : ℕ) → odd w ≡ false → decode_as l w ≡ Err Refusal.Parity
parity_broken l w p = rw p
