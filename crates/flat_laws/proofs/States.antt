-- The numbers that a step gives back stand for the state that the reassembly is then in.
-- Assumes nothing.
use Rattle.std.specs.Prelude.{◌≡◌, refl, ℕ, ◌/◌, ◌<◌, eqb, Result, Ok, Err}
use Rattle.bits.specs.Fields.{bits}
use Rattle.reassembly_parts.specs.Take.{take_of}
use Rattle.reassembly_parts.specs.declared.Part.{Part}
use Rattle.reassembly_parts.specs.declared.Reassembly.{Reassembly}
use Rattle.part_words.specs.Parts.{part_in}
use Rattle.reassembly.specs.Step.{step_of, take_word}
use Rattle.refusals.specs.declared.Refusal.{Refusal}
use Rattle.reassembly.specs.declared.Reassembler.{Reassembler}
use Rattle.flat_reassembly.specs.Steps.{first, second, third, state_of, partial_of, held_by, reassembled}
use Rattle.flat_reassembly.specs.declared.Partial.{Partial}
use Rattle.flat_laws.specs.States.{Short, content, ShortPart, first_of, second-of, third_of, low, one_of, same_short, part_short}

-- the numbers of a state stand for it
pub state_back : (r : Reassembly) → Short r → state_of (partial_of r) ≡ r
state_back Reassembly.Empty h = refl
state_back (Reassembly.AfterOne s a) h = λ i. Reassembly.AfterOne s (first_of a 0 0 h i)
state_back (Reassembly.AfterTwo s a b) h = λ i. Reassembly.AfterTwo s (first_of a b 0 h.0 i) (second-of a b 0 h.0 h.1 i)
state_back (Reassembly.AfterThree s a b c) h =
    λ i. Reassembly.AfterThree s (first_of a b c h.0 i) (second-of a b c h.0 h.1 i) (third_of a b c h.0 h.1 h.2 i)

pub numbers_short : (p : Partial) → Short (state_of p)
numbers_short p =
    let a = low p.bits in
    let b = low (p.bits / 65536) in
    let c = low (p.bits / 4294967296) in
    one_of (eqb p.parts 1) (Reassembly.AfterOne p.source (first p.bits)) _ a
    (one_of (eqb p.parts 2) (Reassembly.AfterTwo p.source (first p.bits) (second p.bits)) _ (a, b)
    (one_of (eqb p.parts 3) (Reassembly.AfterThree p.source (first p.bits) (second p.bits) (third p.bits)) Reassembly.Empty (a, b, c) tt))

take_short : (r : Reassembly) (p : Part) → Short r → content p < 65536 → Short (take_of r p).next
take_short r (Part.One t a) h i = i
take_short Reassembly.Empty (Part.Two t b) h i = tt
take_short (Reassembly.AfterOne s a) (Part.Two t b) h i = same_short s t _ (h, i)
take_short (Reassembly.AfterTwo s a b') (Part.Two t b) h i = tt
take_short (Reassembly.AfterThree s a b' c') (Part.Two t b) h i = tt
take_short Reassembly.Empty (Part.Three t c) h i = tt
take_short (Reassembly.AfterOne s a) (Part.Three t c) h i = tt
take_short (Reassembly.AfterTwo s a b) (Part.Three t c) h i = same_short s t _ (h.0, h.1, i)
take_short (Reassembly.AfterThree s a b c') (Part.Three t c) h i = tt
take_short Reassembly.Empty (Part.Four t d m) h i = tt
take_short (Reassembly.AfterOne s a) (Part.Four t d m) h i = tt
take_short (Reassembly.AfterTwo s a b) (Part.Four t d m) h i = tt
take_short (Reassembly.AfterThree s a b c) (Part.Four t d m) h i = same_short s t _ tt

step_short : (s : Reassembler) (x : Result Part Refusal) → Short s.group_c → ShortPart x → Short (step_of s x).next.group_c
step_short s (Ok p) h i = take_short s.group_c p h i
step_short s (Err f) h i = h

-- the numbers given back stand for the state after the word, for all numbers and every word
pub next_state : (p : Partial) (w : ℕ) → state_of (reassembled p w).next ≡ (take_word (held_by p) w).next.group_c
next_state p w = state_back (take_word (held_by p) w).next.group_c (step_short (held_by p) (part_in w) (numbers_short p) (part_short w))
