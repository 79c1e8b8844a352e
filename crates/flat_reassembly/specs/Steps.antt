-- A step of the reassembly with its state as numbers.
-- Assumes nothing.
use Rattle.std.specs.Prelude.{cond, ℕ, ◌+◌, ◌*◌, ◌/◌, ◌%◌, eqb}
use Rattle.codes.specs.Codes.{flag_bit}
use Rattle.refusals.specs.Numbers.{number_of}
use Rattle.reassembly_parts.specs.declared.Reassembly.{Reassembly}
use Rattle.reassembly.specs.Step.{take_word}
use Rattle.reassembly.specs.declared.Reassembler.{Reassembler}
use Rattle.reassembly.specs.declared.WordAnswer.{WordAnswer}
use Rattle.reassembly.specs.declared.WordStep.{WordStep}
use Rattle.flat_reassembly.specs.declared.FlatAnswer.{FlatAnswer}
use Rattle.flat_reassembly.specs.declared.FlatStep.{FlatStep}
use Rattle.flat_reassembly.specs.declared.Partial.{Partial}

-- the content of each part held: 16 bits, those of part one lowest
abbrev pub first : ℕ → ℕ
first bits = bits % 65536

abbrev pub second : ℕ → ℕ
second bits = bits / 65536 % 65536

abbrev pub third : ℕ → ℕ
third bits = bits / 4294967296 % 65536

-- the partial group that numbers stand for, for all numbers
abbrev pub state_of : Partial → Reassembly
state_of p =
    cond (eqb p.parts 1) (Reassembly.AfterOne p.source (first p.bits))
    (cond (eqb p.parts 2) (Reassembly.AfterTwo p.source (first p.bits) (second p.bits))
    (cond (eqb p.parts 3) (Reassembly.AfterThree p.source (first p.bits) (second p.bits) (third p.bits))
    Reassembly.Empty))

abbrev pub joined : ℕ → ℕ → ℕ → ℕ
joined a b c = a + b * 65536 + c * 4294967296

-- the numbers of a partial group
abbrev pub partial_of : Reassembly → Partial
partial_of Reassembly.Empty = record { parts = 0; source = 0; bits = 0 }
partial_of (Reassembly.AfterOne s a) = record { parts = 1; source = s; bits = joined a 0 0 }
partial_of (Reassembly.AfterTwo s a b) = record { parts = 2; source = s; bits = joined a b 0 }
partial_of (Reassembly.AfterThree s a b c) = record { parts = 3; source = s; bits = joined a b c }

-- the numbers of an answer
abbrev pub answered : WordAnswer → FlatAnswer
answered WordAnswer.Incomplete = record { refusal = 0; complete = 0; parity_good = 0; bits = 0 }
answered (WordAnswer.Complete g) = record { refusal = 0; complete = 1; parity_good = flag_bit g.parity_good; bits = g.bits }
answered (WordAnswer.Refused f) = record { refusal = number_of f; complete = 0; parity_good = 0; bits = 0 }

abbrev pub step_with : Partial → FlatAnswer → FlatStep
step_with p a = record { next = p; refusal = a.refusal; complete = a.complete; parity_good = a.parity_good; bits = a.bits }

-- the numbers of a step
abbrev pub flat_step : WordStep → FlatStep
flat_step t = step_with (partial_of t.next.group_c) (answered t.answer)

-- the state that numbers stand for
abbrev pub held_by : Partial → Reassembler
held_by p = record { group_c = state_of p }

-- one word, taken into it
abbrev pub reassembled : Partial → ℕ → FlatStep
reassembled p w = flat_step (take_word (held_by p) w)
