-- What taking one word answers and leaves, for every state and every word. Document 01, the last paragraph of "Readings, figures and joined groups".
-- Assumes nothing.
use Rattle.std.specs.Prelude.{ℕ, ◌≡◌, refl, Result, Ok, Err}
use Rattle.std.proofs.Common.{arith}
use Rattle.refusals.specs.declared.Refusal.{Refusal}
use Rattle.refusals.specs.declared.Refusal.TheVariants.{Sequence}
use Rattle.reassembly_parts.specs.declared.Answer.{Answer}
use Rattle.reassembly_parts.specs.declared.Reassembly.TheVariants.{Empty}
use Rattle.reassembly_parts.specs.declared.Step.{Step}
use Rattle.reassembly_parts.specs.Take.{take_of}
use Rattle.reassembly_parts.specs.declared.Part.{Part}
use Rattle.reassembly.specs.declared.Reassembler.{Reassembler}
use Rattle.reassembly.specs.declared.WordAnswer.{WordAnswer}
use Rattle.reassembly.specs.declared.WordStep.{WordStep}
use Rattle.part_words.specs.Parts.{part_in}

-- no part is held
abbrev pub new : Reassembler
new = record { group_c = Empty }

-- the answer to a part, as its word's: out of sequence is number 14
abbrev pub answer_of : Answer → WordAnswer
answer_of Answer.Incomplete = WordAnswer.Incomplete
answer_of (Answer.Complete g) = WordAnswer.Complete g
answer_of Answer.OutOfSequence = WordAnswer.Refused Sequence

abbrev pub stepped : Step → WordStep
stepped t = record { next = record { group_c = t.next }; answer = answer_of t.answer }

-- a part goes to the partial group of its kind; a refused word changes nothing
abbrev pub step_of : Reassembler → Result Part Refusal → WordStep
step_of s (Ok p) = stepped (take_of s.group_c p)
step_of s (Err f) = record { next = s; answer = WordAnswer.Refused f }

abbrev pub take_word : Reassembler → ℕ → WordStep
take_word s w = step_of s (part_in w)

-- ---- what the definition says of each case

-- only a part out of sequence is answered by a refusal
pub only-sequence : (x : Answer) (f : Refusal) → answer_of x ≡ WordAnswer.Refused f → x ≡ Answer.OutOfSequence
only-sequence Answer.Incomplete f e = let z : ◌≡◌ {A = ℕ} 0 1 = cc in absurd (omega arith)
only-sequence (Answer.Complete g) f e = let z : ◌≡◌ {A = ℕ} 0 1 = cc in absurd (omega arith)
only-sequence Answer.OutOfSequence f e = refl
