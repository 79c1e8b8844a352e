-- What taking one part answers and leaves, for every partial group and every part (document 01, the last paragraph of
-- "Readings, figures and joined groups").
use Rattle.std.specs.Prelude.{ℕ, ◌+◌, ◌*◌, ◌^◌, Bool, cond, ◌≡◌, eqb}
use Rattle.std.proofs.Common.{eq-eqb, ne_eqb}
use Rattle.reassembly_parts.specs.declared.Part.{Part}
use Rattle.reassembly_parts.specs.declared.Part.TheVariants.{One, Two, Three, Four}
use Rattle.reassembly_parts.specs.declared.Answer.TheVariants.{Incomplete, Complete, OutOfSequence}
use Rattle.reassembly_parts.specs.declared.Reassembly.{Reassembly}
use Rattle.reassembly_parts.specs.declared.Reassembly.TheVariants.{Empty, AfterOne, AfterTwo, AfterThree}
use Rattle.reassembly_parts.specs.declared.Step.{Step}

-- the 64 bits of a group, received bit j weighing 2 ^ (j - 13): the content of part one lowest, that of part four highest
abbrev pub bits_of : ℕ → ℕ → ℕ → ℕ → ℕ
bits_of first second third fourth = first + second * 2 ^ 16 + third * 2 ^ 32 + fourth * 2 ^ 48

-- the part is taken, and the group is still partial
abbrev pub taken : Reassembly → Step
taken r = record { next = r; answer = Incomplete }

-- the group is complete, and nothing is held
abbrev pub completed : ℕ → Bool → Step
completed bits good = record { next = Empty; answer = Complete (record { bits = bits; parity_good = good }) }

-- the part is refused (14 of document 01), and what was partial is dropped
abbrev pub dropped : Step
dropped = record { next = Empty; answer = OutOfSequence }

-- a part next in sequence is taken only from the source of the parts held
abbrev pub from_same : ℕ → ℕ → Step → Step
from_same held source step = cond (eqb held source) step dropped

-- part one starts anew; parts two, three and four are taken next in sequence and from the same source, and else dropped
abbrev pub take_of : Reassembly → Part → Step
take_of r (One s a) = taken (AfterOne s a)
take_of Empty (Two t b) = dropped
take_of (AfterOne s a) (Two t b) = from_same s t (taken (AfterTwo s a b))
take_of (AfterTwo s a b') (Two t b) = dropped
take_of (AfterThree s a b' c') (Two t b) = dropped
take_of Empty (Three t c) = dropped
take_of (AfterOne s a) (Three t c) = dropped
take_of (AfterTwo s a b) (Three t c) = from_same s t (taken (AfterThree s a b c))
take_of (AfterThree s a b c') (Three t c) = dropped
take_of Empty (Four t d m) = dropped
take_of (AfterOne s a) (Four t d m) = dropped
take_of (AfterTwo s a b) (Four t d m) = dropped
take_of (AfterThree s a b c) (Four t d m) = from_same s t (completed (bits_of a b c d) m)

pub same_source : (held source : ℕ) (step : Step) → held ≡ source → from_same held source step ≡ step
same_source held source step e = rw (eq-eqb held source e)

pub other_source : (held source : ℕ) (step : Step) → (held ≡ source → ⊥) → from_same held source step ≡ dropped
other_source held source step n = rw (ne_eqb held source n)
