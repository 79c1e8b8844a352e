-- A run of words, each step taking the numbers that the step before gave, is answered as the reassembly answers it.
-- Assumes nothing.
use Rattle.std.specs.Prelude.{◌≡◌, refl, List, [], ◌∷◌, map, ℕ}
use Rattle.std.proofs.Common.{ap, ◌∙◌}
use Rattle.reassembly.specs.Runs.{answers, after}
use Rattle.reassembly.specs.Step.{take_word}
use Rattle.reassembly.specs.declared.Reassembler.{Reassembler}
use Rattle.flat_reassembly.specs.Steps.{answered, held_by, reassembled}
use Rattle.flat_reassembly.specs.declared.FlatAnswer.{FlatAnswer}
use Rattle.flat_reassembly.specs.declared.Partial.{Partial}
use Rattle.flat_laws.proofs.States.{next_state}
use Rattle.flat_laws.specs.Runs.{answer_in, flat_answers, flat_after}

next-held : (p : Partial) (w : ℕ) → held_by (reassembled p w).next ≡ (take_word (held_by p) w).next
next-held p w = λ i. record { group_c = next_state p w i }

pub run_answers : (p : Partial) (ws : List ℕ) → flat_answers p ws ≡ map answered (answers (held_by p) ws)
run_answers p [] = refl
run_answers p (w ∷ ws) =
    ap (λ (l : List FlatAnswer). answer_in (reassembled p w) ∷ l)
    (run_answers (reassembled p w).next ws ∙ ap (λ (s : Reassembler). map answered (answers s ws)) (next-held p w))

pub run_after : (p : Partial) (ws : List ℕ) → held_by (flat_after p ws) ≡ after (held_by p) ws
run_after p [] = refl
run_after p (w ∷ ws) = run_after (reassembled p w).next ws ∙ ap (λ (s : Reassembler). after s ws) (next-held p w)
