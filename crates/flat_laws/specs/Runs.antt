-- A run of words, each step taking the numbers that the step before gave, is answered as the reassembly answers it.
-- Assumes nothing.
use Rattle.std.specs.Prelude.{List, [], ◌∷◌, ℕ}
use Rattle.flat_reassembly.specs.Steps.{reassembled}
use Rattle.flat_reassembly.specs.declared.FlatAnswer.{FlatAnswer}
use Rattle.flat_reassembly.specs.declared.FlatStep.{FlatStep}
use Rattle.flat_reassembly.specs.declared.Partial.{Partial}

-- the answer in a step's numbers
abbrev pub answer_in : FlatStep → FlatAnswer
answer_in t = record { refusal = t.refusal; complete = t.complete; parity_good = t.parity_good; bits = t.bits }

-- what a run of words is answered, from numbers
abbrev pub flat_answers : Partial → List ℕ → List FlatAnswer
flat_answers p [] = []
flat_answers p (w ∷ ws) = answer_in (reassembled p w) ∷ flat_answers (reassembled p w).next ws

-- the numbers after a run of words
abbrev pub flat_after : Partial → List ℕ → Partial
flat_after p [] = p
flat_after p (w ∷ ws) = flat_after (reassembled p w).next ws
