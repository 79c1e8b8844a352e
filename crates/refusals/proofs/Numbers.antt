-- Document 01's number of each refusal, and the refusal of each number.
-- Assumes nothing.
use Rattle.std.specs.Prelude.{◌≡◌, refl, ◌≤◌, Some}
use Rattle.std.proofs.Common.{lit≤}
use Rattle.refusals.specs.declared.Refusal.{Refusal}
use Rattle.refusals.specs.declared.Refusal.TheVariants.{Parity, Label, ZeroBit, Code, Digit, Value, AngleParity, Reach, Truncated, Tag, Length, Depth, Room, Sequence, Oversize}
use Rattle.refusals.specs.Numbers.{number_of, refusal_of}

-- both facts below, refusal by refusal
each : (f : Refusal) → (refusal_of (number_of f) ≡ Some f) × (1 ≤ number_of f) × (number_of f ≤ 15)
each Parity = (refl, lit≤ tt, lit≤ tt)
each Label = (refl, lit≤ tt, lit≤ tt)
each ZeroBit = (refl, lit≤ tt, lit≤ tt)
each Code = (refl, lit≤ tt, lit≤ tt)
each Digit = (refl, lit≤ tt, lit≤ tt)
each Value = (refl, lit≤ tt, lit≤ tt)
each AngleParity = (refl, lit≤ tt, lit≤ tt)
each Reach = (refl, lit≤ tt, lit≤ tt)
each Truncated = (refl, lit≤ tt, lit≤ tt)
each Tag = (refl, lit≤ tt, lit≤ tt)
each Length = (refl, lit≤ tt, lit≤ tt)
each Depth = (refl, lit≤ tt, lit≤ tt)
each Room = (refl, lit≤ tt, lit≤ tt)
each Sequence = (refl, lit≤ tt, lit≤ tt)
each Oversize = (refl, lit≤ tt, lit≤ tt)

-- a refusal is the one of its number
pub refusal_of-number : (f : Refusal) → refusal_of (number_of f) ≡ Some f
refusal_of-number f = (each f).0

-- the numbers are 1 to 15: 0 is no refusal's
pub number-bounds : (f : Refusal) → (1 ≤ number_of f) × (number_of f ≤ 15)
number-bounds f = ((each f).1, (each f).2)
