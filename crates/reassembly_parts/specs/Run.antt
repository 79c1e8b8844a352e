-- Runs of words through one reassembly, for any words and any rule that tells which of them are parts.
use Rattle.std.specs.Prelude.{ℕ, ◌≡◌, refl, Bool, true, List, [], ◌∷◌, ◌++◌, map}
use Rattle.reassembly_parts.specs.declared.Part.{Part}
use Rattle.reassembly_parts.specs.declared.Part.TheVariants.{One, Two, Three, Four}
use Rattle.reassembly_parts.specs.declared.Group.{Group}
use Rattle.reassembly_parts.specs.declared.Answer.{Answer}
use Rattle.reassembly_parts.specs.declared.Answer.TheVariants.{Incomplete, Complete, OutOfSequence}
use Rattle.reassembly_parts.specs.declared.Reassembly.{Reassembly}
use Rattle.reassembly_parts.specs.declared.Reassembly.TheVariants.{Empty}
use Rattle.reassembly_parts.specs.Take.{bits_of, take_of}

-- what a word is to a reassembly: one of its parts, or another word, which has an answer of its own (a refusal, or that
-- it belongs to another kind of group)
pub data Input (R : Type 0) : Type 0 where
  part : Part → Input R
  other : R → Input R

-- what a word is answered
pub data Reply (R : Type 0) : Type 0 where
  answered : Answer → Reply R
  own : R → Reply R

abbrev pub group_of : ℕ → ℕ → ℕ → ℕ → Bool → Group
group_of a b c d good = record { bits = bits_of a b c d; parity_good = good }

module _ {R : Type 0} where
  -- a part is answered by the reassembly, another word by its own answer
  abbrev pub reply_of : Reassembly → Input R → Reply R
  reply_of held (part p) = answered (take_of held p).answer
  reply_of held (other r) = own r

  -- another word changes nothing
  abbrev pub next_of : Reassembly → Input R → Reassembly
  next_of held (part p) = (take_of held p).next
  next_of held (other r) = held

  -- what a run of words is answered, word by word
  abbrev pub replies : Reassembly → List (Input R) → List (Reply R)
  replies held [] = []
  replies held (x ∷ xs) = reply_of held x ∷ replies (next_of held x) xs

  -- what is held after a run of words
  abbrev pub held_after : Reassembly → List (Input R) → Reassembly
  held_after held [] = held
  held_after held (x ∷ xs) = held_after (next_of held x) xs

  -- words that are no parts
  abbrev pub others : List R → List (Input R)
  others = map other

  -- parts one, two and three of one source in sequence, with only other words after each
  abbrev pub first_three : (source a b c : ℕ) (r₁ r₂ r₃ : List R) → List (Input R)
  first_three source a b c r₁ r₂ r₃ =
      part (One source a) ∷ (others r₁ ++ (part (Two source b) ∷ (others r₂ ++ (part (Three source c) ∷ others r₃))))

  -- the answers to them: each part is taken, and each other word has its own answer
  abbrev pub first_three_answers : (r₁ r₂ r₃ : List R) → List (Reply R)
  first_three_answers r₁ r₂ r₃ =
      answered Incomplete ∷ (map own r₁ ++ (answered Incomplete ∷ (map own r₂ ++ (answered Incomplete ∷ map own r₃))))

  pub held_after-append : (held : Reassembly) (xs ys : List (Input R)) → held_after held (xs ++ ys) ≡ held_after (held_after held xs) ys
  held_after-append held [] ys = refl
  held_after-append held (x ∷ xs) ys = held_after-append (next_of held x) xs ys

-- A part of another source is refused and drops what was partial, a refused word changes nothing, and the contents 1 to 4
-- give their 64 bits.
worked :
    replies {R = ℕ} Empty
    (part (One 2 1) ∷ part (Two 1 2) ∷ part (Three 2 3) ∷ part (One 2 1) ∷ other 3 ∷ part (Two 2 2) ∷ part (Three 2 3) ∷ part (Four 2 4 true) ∷ part (Four 2 4 true) ∷ [])
    ≡ answered Incomplete ∷ answered OutOfSequence ∷ answered OutOfSequence ∷ answered Incomplete ∷ own 3 ∷ answered Incomplete ∷ answered Incomplete
    ∷ answered (Complete (record { bits = 0x0004_0003_0002_0001; parity_good = true })) ∷ answered OutOfSequence ∷ []
worked = refl
