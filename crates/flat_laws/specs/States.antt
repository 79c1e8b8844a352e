-- The numbers that a step gives back stand for the state that the reassembly is then in.
-- Assumes nothing.
use Rattle.std.specs.Prelude.{◌≡◌, refl, Bool, true, false, cond, ℕ, ◌/◌, ◌%◌, ◌^◌, ◌<◌, eqb, Result, Ok, Err}
use Rattle.std.proofs.Common.{subst, mod-lt, arith, lit<}
use Rattle.labels.proofs.Assignment.{document01}
use Rattle.reassembly_parts.specs.Take.{dropped, from_same}
use Rattle.reassembly_parts.specs.declared.Part.{Part}
use Rattle.reassembly_parts.specs.declared.Reassembly.{Reassembly}
use Rattle.reassembly_parts.specs.declared.Step.{Step}
use Rattle.part_words.specs.Carries.{Carries}
use Rattle.part_words.proofs.Carries.{carries}
use Rattle.part_words.specs.Parts.{part_in}
use Rattle.refusals.specs.declared.Refusal.{Refusal}
use Rattle.flat_reassembly.specs.Steps.{first, second, third, joined}

-- every content has 16 bits: of a state, of a part, of the part in a word
abbrev pub Short : Reassembly → Type 0
Short Reassembly.Empty = Unit
Short (Reassembly.AfterOne s a) = a < 65536
Short (Reassembly.AfterTwo s a b) = (a < 65536) × (b < 65536)
Short (Reassembly.AfterThree s a b c) = (a < 65536) × (b < 65536) × (c < 65536)

abbrev pub content : Part → ℕ
content (Part.One s a) = a
content (Part.Two s a) = a
content (Part.Three s a) = a
content (Part.Four s a m) = a

abbrev pub ShortPart : Result Part Refusal → Type 0
ShortPart (Ok p) = content p < 65536
ShortPart (Err f) = Unit

-- ---- contents joined and taken apart

pub first_of : (a b c : ℕ) → a < 65536 → first (joined a b c) ≡ a
first_of a b c h = omega arith

pub second-of : (a b c : ℕ) → a < 65536 → b < 65536 → second (joined a b c) ≡ b
second-of a b c h i = omega arith

pub third_of : (a b c : ℕ) → a < 65536 → b < 65536 → c < 65536 → third (joined a b c) ≡ c
third_of a b c h i j = omega arith

-- ---- every state that numbers stand for is short

pub low : (n : ℕ) → n % 65536 < 65536
low n = mod-lt n (lit< tt)

pub one_of : (b : Bool) (x y : Reassembly) → Short x → Short y → Short (cond b x y)
one_of true x y h i = h
one_of false x y h i = i

-- ---- and a step keeps it so

pub same_short : (s t : ℕ) (step : Step) → Short step.next → Short (from_same s t step).next
same_short s t step h = by (eqb s t)
  where
    by : (k : Bool) → Short (cond k step dropped).next
    by true = h
    by false = tt

-- the content of a part is bits 14 to 29 of its word
content_short : (w : ℕ) (p : Part) → Carries document01 p w → content p < 65536
content_short w (Part.One s c) h = subst (λ (n : ℕ). n < 65536) h.2 (low (w / 2 ^ 13))
content_short w (Part.Two s c) h = subst (λ (n : ℕ). n < 65536) h.2 (low (w / 2 ^ 13))
content_short w (Part.Three s c) h = subst (λ (n : ℕ). n < 65536) h.2 (low (w / 2 ^ 13))
content_short w (Part.Four s c g) h = subst (λ (n : ℕ). n < 65536) h.2 (low (w / 2 ^ 13))

pub part_short : (w : ℕ) → ShortPart (part_in w)
part_short w = by (part_in w) refl
  where
    by : (x : Result Part Refusal) → part_in w ≡ x → ShortPart x
    by (Ok p) e = content_short w p ((carries document01 w p).0 e)
    by (Err f) e = tt
