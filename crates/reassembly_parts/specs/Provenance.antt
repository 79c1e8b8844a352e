-- Where a completed group comes from: only from parts one to four of one source in sequence, with only other words between.
use Rattle.std.specs.Prelude.{ℕ, ◌≡◌, refl, Bool}
use Rattle.std.proofs.Common.{sym, ap, ◌∙◌}
use mathlib.Core.List.{List, [], ◌∷◌, ◌++◌, map, append_assoc, map-append}
use Rattle.reassembly_parts.specs.declared.Part.{Part}
use Rattle.reassembly_parts.specs.declared.Part.TheVariants.{One, Two, Three, Four}
use Rattle.reassembly_parts.specs.declared.Group.{Group}
use Rattle.reassembly_parts.specs.declared.Reassembly.{Reassembly}
use Rattle.reassembly_parts.specs.declared.Reassembly.TheVariants.{Empty, AfterOne, AfterTwo, AfterThree}
use Rattle.reassembly_parts.specs.declared.Step.{Step}
use Rattle.reassembly_parts.specs.Take.{take_of}
use Rattle.reassembly_parts.specs.Sequence.{first, second, third, fourth, second-taken, third-taken}
use Rattle.reassembly_parts.specs.Run.{Input, part, other, Reply, group_of, reply_of, replies, held_after, others, first_three}

module _ {R : Type 0} where
  -- the parts that are held, in order
  abbrev pub stored : Reassembly → List (Input R)
  stored Empty = []
  stored (AfterOne s a) = part (One s a) ∷ []
  stored (AfterTwo s a b) = part (One s a) ∷ part (Two s b) ∷ []
  stored (AfterThree s a b c) = part (One s a) ∷ part (Two s b) ∷ part (Three s c) ∷ []

  -- xs ends with the part p, of what stands before it P holds, and only other words come after it
  abbrev pub EndsWith : (List (Input R) → Type 0) → Part → List (Input R) → Type 0
  EndsWith P p xs = (before : List (Input R)) × (since : List R) × (xs ≡ before ++ (part p ∷ others since)) × P before

  -- the words end with exactly the parts that are held, each followed only by other words
  abbrev pub HeldFrom : Reassembly → List (Input R) → Type 0
  HeldFrom Empty = λ xs. Unit {0}
  HeldFrom (AfterOne s a) = EndsWith (λ xs. Unit {0}) (One s a)
  HeldFrom (AfterTwo s a b) = EndsWith (EndsWith (λ xs. Unit {0}) (One s a)) (Two s b)
  HeldFrom (AfterThree s a b c) = EndsWith (EndsWith (EndsWith (λ xs. Unit {0}) (One s a)) (Two s b)) (Three s c)

  pub ends_with_other : (P : List (Input R) → Type 0) (p : Part) (xs : List (Input R)) (r : R) → EndsWith P p xs → EndsWith P p (xs ++ (other r ∷ []))
  ends_with_other P p xs r t = (
    t.0,
    t.1 ++ (r ∷ []),
    ap (λ (l : List (Input R)). l ++ (other r ∷ [])) t.2 ∙ append_assoc t.0 _ _
        ∙ ap (λ (l : List (Input R)). t.0 ++ (part p ∷ l)) (sym (map-append other t.1 (r ∷ []))),
    t.3,
  )

module _ (R : Type 0) where
  pub held_from_stored : (held : Reassembly) → HeldFrom {R = R} held (stored held)
  held_from_stored Empty = tt
  held_from_stored (AfterOne s a) = ([], [], refl, tt)
  held_from_stored (AfterTwo s a b) = (part (One s a) ∷ [], [], refl, ([], [], refl, tt))
  held_from_stored (AfterThree s a b c) = (part (One s a) ∷ part (Two s b) ∷ [], [], refl, (part (One s a) ∷ [], [], refl, ([], [], refl, tt)))

  -- Any partial group is what its own parts give, taken one after the other.
  pub stored-held : (held : Reassembly) → held_after {R = R} Empty (stored held) ≡ held
  stored-held Empty = refl
  stored-held (AfterOne s a) = refl
  stored-held (AfterTwo s a b) = ap (λ (t : Step). t.next) (second-taken s a b)
  stored-held (AfterThree s a b c) =
      ap (λ (t : Step). (take_of t.next (Three s c)).next) (second-taken s a b) ∙ ap (λ (t : Step). t.next) (third-taken s a b c)

-- a part that completes the group g: part four after the three others of its source
pub record Completes (held : Reassembly) (p : Part) (g : Group) : Type 0 where
  pub source : ℕ
  pub first : ℕ
  pub second : ℕ
  pub third : ℕ
  pub fourth : ℕ
  pub good : Bool
  pub holding : held ≡ AfterThree source first second third
  pub last : p ≡ Four source fourth good
  pub group : g ≡ group_of first second third fourth good

module _ {R : Type 0} where
  -- xs ends with parts one to three of one source in sequence, with only other words between and after them
  pub record FirstThree (s a b c : ℕ) (xs : List (Input R)) : Type 0 where
    pub earlier : List (Input R)
    pub r₁ : List R
    pub r₂ : List R
    pub r₃ : List R
    pub whole : xs ≡ earlier ++ first_three s a b c r₁ r₂ r₃

  pub held-first_three : (s a b c : ℕ) (xs : List (Input R)) → HeldFrom (AfterThree s a b c) xs → FirstThree s a b c xs
  held-first_three s a b c xs h =
      record { earlier = h.3.3.0; r₁ = h.3.3.1; r₂ = h.3.1; r₃ = h.1; whole = rw (h.2, h.3.2, h.3.3.2) (simp append_assoc) }

-- Any words, and any rule that tells what each of them is.
module _ {W R : Type 0} (classify : W → Input R) where
  -- where the answer o stands in a run of words, `answers` being the answers before it: the word that it answers, and those before and after
  pub record Located (start : Reassembly) (words : List W) (answers : List (Reply R)) (o : Reply R) : Type 0 where
    pub before : List W
    pub word : W
    pub after : List W
    pub words_are : words ≡ before ++ (word ∷ after)
    pub answers_are : answers ≡ replies start (map classify before)
    pub is : reply_of (held_after start (map classify before)) (classify word) ≡ o
