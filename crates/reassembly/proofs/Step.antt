-- What taking one word answers and leaves, for every state and every word. Document 01, the last paragraph of "Readings, figures and joined groups".
-- Assumes nothing.
use Rattle.std.specs.Prelude.{ℕ, ◌≡◌, Result, Ok, Err}
use Rattle.std.proofs.Common.{sym, ap, ◌∙◌}
use Rattle.refusals.specs.declared.Refusal.{Refusal}
use Rattle.refusals.specs.declared.Refusal.TheVariants.{Sequence}
use Rattle.reassembly_parts.specs.declared.Part.{Part}
use Rattle.reassembly_parts.specs.Take.{take_of}
use Rattle.reassembly_parts.specs.Sequence.{InSequence, out_of-sequence as part-refused}
use Rattle.reassembly_parts.proofs.Sequence.{in_sequence as part-taken}
use Rattle.reassembly.specs.declared.Reassembler.{Reassembler}
use Rattle.reassembly.specs.declared.WordAnswer.{WordAnswer}
use Rattle.part_words.specs.Parts.{part_in}
use Rattle.reassembly.specs.Step.{new, stepped, step_of, take_word, only-sequence}

-- a word that is refused 1 to 4 leaves the state as it stood
pub refused_unchanged : (s : Reassembler) (w : ℕ) (f : Refusal) → part_in w ≡ Err f → take_word s w ≡ record { next = s; answer = WordAnswer.Refused f }
refused_unchanged s w f e = ap (step_of s) e

-- a part out of sequence is refused 14, and nothing is held
pub out_of-sequence : (s : Reassembler) (w : ℕ) (p : Part) → part_in w ≡ Ok p → (InSequence s.group_c p → ⊥)
    → take_word s w ≡ record { next = new; answer = WordAnswer.Refused Sequence }
out_of-sequence s w p e n = ap (step_of s) e ∙ ap stepped (part-refused s.group_c p n)

-- a part in sequence is never refused; part one always is in sequence
pub in_sequence : (s : Reassembler) (w : ℕ) (p : Part) (f : Refusal) → part_in w ≡ Ok p → InSequence s.group_c p
    → (take_word s w).answer ≡ WordAnswer.Refused f → ⊥
in_sequence s w p f e i r =
    part-taken s.group_c p i
    (only-sequence (take_of s.group_c p).answer f (sym (ap (λ (x : Result Part Refusal). (step_of s x).answer) e) ∙ r))
