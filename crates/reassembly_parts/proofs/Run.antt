-- Runs of words through one reassembly, for any words and any rule that tells which of them are parts.
use Rattle.std.specs.Prelude.{ℕ, ◌≡◌, refl, Bool, List, [], ◌∷◌, ◌++◌, map}
use Rattle.std.proofs.Common.{ap, ap₂, ◌∙◌}
use Rattle.reassembly_parts.specs.declared.Part.{Part}
use Rattle.reassembly_parts.specs.declared.Part.TheVariants.{One, Two, Four}
use Rattle.reassembly_parts.specs.declared.Answer.TheVariants.{Incomplete, Complete}
use Rattle.reassembly_parts.specs.declared.Reassembly.{Reassembly}
use Rattle.reassembly_parts.specs.declared.Reassembly.TheVariants.{Empty, AfterOne, AfterThree}
use Rattle.reassembly_parts.specs.Take.{take_of}
use Rattle.reassembly_parts.specs.Sequence.{second-taken, third-taken}
use Rattle.reassembly_parts.proofs.Sequence.{fourth_taken}
use Rattle.reassembly_parts.specs.declared.Step.{Step}
use Rattle.reassembly_parts.specs.Run.{Input, Reply, group_of, reply_of, next_of, replies, held_after, others, first_three, first_three_answers, held_after-append, part, answered, own}

module _ {R : Type 0} where
  replies-append : (held : Reassembly) (xs ys : List (Input R)) → replies held (xs ++ ys) ≡ replies held xs ++ replies (held_after held xs) ys
  replies-append held [] ys = refl
  replies-append held (x ∷ xs) ys = ap (λ l. reply_of held x ∷ l) (replies-append (next_of held x) xs ys)

  replies-others : (held : Reassembly) (rs : List R) → replies held (others rs) ≡ map own rs
  replies-others held [] = refl
  replies-others held (r ∷ rs) = ap (λ (l : List (Reply R)). own r ∷ l) (replies-others held rs)

  held_after-others : (held : Reassembly) (rs : List R) → held_after held (others rs) ≡ held
  held_after-others held [] = refl
  held_after-others held (r ∷ rs) = held_after-others held rs

  -- a part and the other words after it
  replies-part : (held : Reassembly) (p : Part) (step : Step) → take_of held p ≡ step → (rs : List R) (xs : List (Input R))
      → replies held (part p ∷ (others rs ++ xs)) ≡ answered step.answer ∷ (map own rs ++ replies step.next xs)
  replies-part held p step e rs xs =
      ap (λ (t : Step). answered t.answer ∷ replies t.next (others rs ++ xs)) e
      ∙ simp (replies-append, replies-others, held_after-others)

  held_after-part : (held : Reassembly) (p : Part) (step : Step) → take_of held p ≡ step → (rs : List R) (xs : List (Input R))
      → held_after held (part p ∷ (others rs ++ xs)) ≡ held_after step.next xs
  held_after-part held p step e rs xs =
      ap (λ (t : Step). held_after t.next (others rs ++ xs)) e ∙ simp (held_after-append, held_after-others)

  module _ (source a b c : ℕ) (r₁ r₂ r₃ : List R) where
    replies-first_three : (held : Reassembly) → replies held (first_three source a b c r₁ r₂ r₃) ≡ first_three_answers r₁ r₂ r₃
    replies-first_three held =
        replies-part held (One source a) _ refl r₁ _ ∙ ap (λ (l : List (Reply R)). answered Incomplete ∷ (map own r₁ ++ l))
        (replies-part (AfterOne source a) (Two source b) _ (second-taken source a b) r₂ _ ∙ ap (λ (l : List (Reply R)). answered Incomplete ∷ (map own r₂ ++ l))
        (ap (λ (t : Step). answered t.answer ∷ replies t.next (others r₃)) (third-taken source a b c)
        ∙ ap (λ (l : List (Reply R)). answered Incomplete ∷ l) (replies-others _ r₃)))

    held_after-first_three : (held : Reassembly) → held_after held (first_three source a b c r₁ r₂ r₃) ≡ AfterThree source a b c
    held_after-first_three held =
        held_after-part held (One source a) _ refl r₁ _
        ∙ held_after-part (AfterOne source a) (Two source b) _ (second-taken source a b) r₂ _
        ∙ ap (λ (t : Step). held_after t.next (others r₃)) (third-taken source a b c) ∙ held_after-others _ r₃

  -- Whatever is held at the start and whatever words come earlier and later: the four parts in sequence from one source, with
  -- other words anywhere between, give the group; every other word has its own answer; and nothing is held after part four.
  module _ (start : Reassembly) (earlier later : List (Input R)) (source a b c d : ℕ) (good : Bool) (r₁ r₂ r₃ : List R) where
    pub group_completed :
        replies start (earlier ++ (first_three source a b c r₁ r₂ r₃ ++ (part (Four source d good) ∷ later)))
        ≡ replies start earlier ++ (first_three_answers r₁ r₂ r₃ ++ (answered (Complete (group_of a b c d good)) ∷ replies Empty later))
    group_completed =
        replies-append start earlier _ ∙ ap (λ (l : List (Reply R)). replies start earlier ++ l)
        (replies-append (held_after start earlier) (first_three source a b c r₁ r₂ r₃) _
        ∙ ap₂ (λ (l : List (Reply R)) (h : Reassembly). l ++ replies h (part (Four source d good) ∷ later))
        (replies-first_three source a b c r₁ r₂ r₃ (held_after start earlier)) (held_after-first_three source a b c r₁ r₂ r₃ (held_after start earlier))
        ∙ ap (λ (t : Step). first_three_answers r₁ r₂ r₃ ++ (answered t.answer ∷ replies t.next later)) (fourth_taken source a b c d good))

    pub nothing-held : held_after start (earlier ++ (first_three source a b c r₁ r₂ r₃ ++ (part (Four source d good) ∷ later))) ≡ held_after Empty later
    nothing-held =
        held_after-append start earlier _ ∙ held_after-append (held_after start earlier) (first_three source a b c r₁ r₂ r₃) _
        ∙ ap (λ (h : Reassembly). held_after h (part (Four source d good) ∷ later)) (held_after-first_three source a b c r₁ r₂ r₃ (held_after start earlier))
        ∙ ap (λ (t : Step). held_after t.next later) (fourth_taken source a b c d good)

-- The same for any words, and any rule that tells what each of them is.
pub words-completed : {W R : Type 0} (classify : W → Input R) (words : List W)
    (start : Reassembly) (earlier later : List (Input R)) (source a b c d : ℕ) (good : Bool) (r₁ r₂ r₃ : List R)
    → map classify words ≡ earlier ++ (first_three source a b c r₁ r₂ r₃ ++ (part (Four source d good) ∷ later))
    → replies start (map classify words)
    ≡ replies start earlier ++ (first_three_answers r₁ r₂ r₃ ++ (answered (Complete (group_of a b c d good)) ∷ replies Empty later))
words-completed classify words start earlier later source a b c d good r₁ r₂ r₃ e =
    ap (replies start) e ∙ group_completed start earlier later source a b c d good r₁ r₂ r₃
