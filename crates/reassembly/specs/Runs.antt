-- Runs of words from any state: parts 1 to 4 in sequence from one source, with refused words anywhere, give their group, and a group is given only then.
-- Assumes nothing.
use Rattle.std.specs.Prelude.{ℕ, ◌≡◌, refl, Result, Ok, Err}
use Rattle.std.proofs.Common.{sym, ap, ap₂, ◌∙◌, arith}
use mathlib.Core.List.{List, [], ◌∷◌, ◌++◌, map, map-append, map-map, nil≢cons, head-eq_of_cons-eq, tail-eq_of_cons-eq}
use Rattle.bits.specs.Fields.{bits}
use Rattle.refusals.specs.declared.Refusal.{Refusal}
use Rattle.labels.proofs.Assignment.{document01}
use Rattle.reassembly_parts.specs.declared.Answer.{Answer}
use Rattle.reassembly_parts.specs.declared.Group.{Group}
use Rattle.reassembly_parts.specs.declared.Part.{Part}
use Rattle.reassembly_parts.specs.Run.{Input, part, other, Reply, answered, own}
use Rattle.reassembly_parts.specs.Run.{others, first_three_answers}
use Rattle.reassembly.specs.declared.Reassembler.{Reassembler}
use Rattle.reassembly.specs.declared.WordAnswer.{WordAnswer}
use Rattle.reassembly.specs.declared.WordAnswer.TheVariants.{Incomplete, Complete}
use Rattle.part_words.specs.Parts.{part_in}
use Rattle.reassembly.specs.Step.{new, answer_of, take_word}
use Rattle.part_words.specs.Carries.{PartWord, Carries}
use Rattle.part_words.proofs.Carries.{carries}
use Rattle.part_words.specs.Bits.{group_from}

-- what a run of words is answered, word by word
abbrev pub answers : Reassembler → List ℕ → List WordAnswer
answers s [] = []
answers s (w ∷ ws) = (take_word s w).answer ∷ answers (take_word s w).next ws

-- what is held after a run of words
abbrev pub after : Reassembler → List ℕ → Reassembler
after s [] = s
after s (w ∷ ws) = after (take_word s w).next ws

-- words that are all refused, by these refusals
abbrev pub RefusedBy : List ℕ → List Refusal → Type 0
RefusedBy xs fs = map part_in xs ≡ map Err fs

-- Four words that document 01's table allows, parts 1 to 4 of one source, and refused words between them.
pub record PartsInSequence (w₁ w₂ w₃ w₄ : ℕ) (x₁ x₂ x₃ : List ℕ) (f₁ f₂ f₃ : List Refusal) : Type 0 where
  pub first : PartWord 0o140 11 0 w₁
  pub second : PartWord 0o141 11 1 w₂
  pub third : PartWord 0o142 11 2 w₃
  pub fourth : PartWord 0o143 12 3 w₄
  pub source₂ : bits 9 10 w₂ ≡ bits 9 10 w₁
  pub source₃ : bits 9 10 w₃ ≡ bits 9 10 w₁
  pub source₄ : bits 9 10 w₄ ≡ bits 9 10 w₁
  pub refused₁ : RefusedBy x₁ f₁
  pub refused₂ : RefusedBy x₂ f₂
  pub refused₃ : RefusedBy x₃ f₃

-- the words up to part 4
abbrev pub sequence : (w₁ w₂ w₃ : ℕ) (x₁ x₂ x₃ : List ℕ) → List ℕ
sequence w₁ w₂ w₃ x₁ x₂ x₃ = w₁ ∷ (x₁ ++ (w₂ ∷ (x₂ ++ (w₃ ∷ x₃))))

-- and the answers to them
abbrev pub sequence_answers : (f₁ f₂ f₃ : List Refusal) → List WordAnswer
sequence_answers f₁ f₂ f₃ =
    Incomplete ∷ (map WordAnswer.Refused f₁ ++ (Incomplete ∷ (map WordAnswer.Refused f₂ ++ (Incomplete ∷ map WordAnswer.Refused f₃))))

-- ---- words as the inputs of `reassembly_parts`

abbrev pub input_of : Result Part Refusal → Input Refusal
input_of (Ok p) = part p
input_of (Err f) = other f

abbrev pub classify : ℕ → Input Refusal
classify w = input_of (part_in w)

abbrev pub word_answer : Reply Refusal → WordAnswer
word_answer (answered x) = answer_of x
word_answer (own f) = WordAnswer.Refused f

pub refused-others : (xs : List ℕ) (fs : List Refusal) → RefusedBy xs fs → map classify xs ≡ others fs
refused-others xs fs e = sym (map-map input_of part_in xs) ∙ ap (map input_of) e ∙ map-map input_of Err fs

-- ---- the group is given

pub is : (w : ℕ) (p : Part) → Carries document01 p w → classify w ≡ part p
is w p c = ap input_of ((carries document01 w p).1 c)

pub sequence-step : (w : ℕ) (p : Part) (xs : List ℕ) (fs : List Refusal) (rest : List ℕ) (out : List (Input Refusal))
    → classify w ≡ part p → RefusedBy xs fs → map classify rest ≡ out → map classify (w ∷ (xs ++ rest)) ≡ part p ∷ (others fs ++ out)
sequence-step w p xs fs rest out e r q =
    ap₂ (λ (i : Input Refusal) (l : List (Input Refusal)). i ∷ l) e
    (map-append classify xs rest ∙ ap₂ (λ (l m : List (Input Refusal)). l ++ m) (refused-others xs fs r) q)

module _ (s : Reassembler) (earlier later : List ℕ) (w₁ w₂ w₃ w₄ : ℕ) (x₁ x₂ x₃ : List ℕ) (f₁ f₂ f₃ : List Refusal)
    (h : PartsInSequence w₁ w₂ w₃ w₄ x₁ x₂ x₃ f₁ f₂ f₃) where
  pub sequence-answered : map word_answer (first_three_answers f₁ f₂ f₃) ≡ sequence_answers f₁ f₂ f₃
  sequence-answered = simp (map-append, map-map)

  abbrev pub ws : List ℕ
  ws = earlier ++ (sequence w₁ w₂ w₃ x₁ x₂ x₃ ++ (w₄ ∷ later))

-- ---- a group is given only then

-- a run of answers that gives a group, seen as the answers of `reassembly_parts`
pub complete_only : (o : Reply Refusal) (g : Group) → word_answer o ≡ Complete g → o ≡ answered (Answer.Complete g)
complete_only (answered Answer.Incomplete) g e = let z : ◌≡◌ {A = ℕ} 0 1 = cc in absurd (omega arith)
complete_only (answered (Answer.Complete h)) g e = let i : h ≡ g = cc in ap (λ (x : Group). answered (Answer.Complete x)) i
complete_only (answered Answer.OutOfSequence) g e = let z : ◌≡◌ {A = ℕ} 0 1 = cc in absurd (omega arith)
complete_only (own f) g e = let z : ◌≡◌ {A = ℕ} 0 1 = cc in absurd (omega arith)

carried_only : (x : Result Part Refusal) (p : Part) → input_of x ≡ part p → x ≡ Ok p
carried_only (Ok q) p e = let i : q ≡ p = cc in ap Ok i
carried_only (Err f) p e = let z : ◌≡◌ {A = ℕ} 0 1 = cc in absurd (omega arith)

refused-only : (x : Result Part Refusal) (f : Refusal) → input_of x ≡ other f → x ≡ Err f
refused-only (Ok q) f e = let z : ◌≡◌ {A = ℕ} 0 1 = cc in absurd (omega arith)
refused-only (Err h) f e = let i : h ≡ f = cc in ap Err i

module _ {A B : Type 0} (f : A → B) where
  -- a list whose image is cut in two is cut there itself
  pub record Cut (xs : List A) (ys zs : List B) : Type 0 where
    pub front : List A
    pub back : List A
    pub whole : xs ≡ front ++ back
    pub front_is : map f front ≡ ys
    pub back_is : map f back ≡ zs

  pub cut : (xs : List A) (ys zs : List B) → map f xs ≡ ys ++ zs → Cut xs ys zs
  cut xs [] zs e = record { front = []; back = xs; whole = refl; front_is = refl; back_is = e }
  cut [] (y ∷ ys) zs e = absurd (nil≢cons e)
  cut (x ∷ xs) (y ∷ ys) zs e =
      let c = cut xs ys zs (tail-eq_of_cons-eq e) in
      record {
        front = x ∷ c.front;
        back = c.back;
        whole = ap (λ (l : List A). x ∷ l) c.whole;
        front_is = ap₂ (λ (b : B) (l : List B). b ∷ l) (head-eq_of_cons-eq e) c.front_is;
        back_is = c.back_is;
      }

  -- and one whose image has a head has one
  pub record Headed (xs : List A) (y : B) (zs : List B) : Type 0 where
    pub head : A
    pub tail : List A
    pub whole : xs ≡ head ∷ tail
    pub head_is : f head ≡ y
    pub tail_is : map f tail ≡ zs

  pub headed : (xs : List A) (y : B) (zs : List B) → map f xs ≡ y ∷ zs → Headed xs y zs
  headed [] y zs e = absurd (nil≢cons e)
  headed (x ∷ xs) y zs e = record { head = x; tail = xs; whole = refl; head_is = head-eq_of_cons-eq e; tail_is = tail-eq_of_cons-eq e }

pub others-refused : (xs : List ℕ) (fs : List Refusal) → map classify xs ≡ others fs → RefusedBy xs fs
others-refused [] [] e = refl
others-refused [] (f ∷ fs) e = absurd (nil≢cons e)
others-refused (x ∷ xs) [] e = absurd (nil≢cons (sym e))
others-refused (x ∷ xs) (f ∷ fs) e =
    ap₂ (λ (p : Result Part Refusal) (l : List (Result Part Refusal)). p ∷ l) (refused-only (part_in x) f (head-eq_of_cons-eq e)) (others-refused xs fs (tail-eq_of_cons-eq e))

-- How a group was given in a run of words from a new state, `before` being the answers before it.
pub record GivenBy (words : List ℕ) (before : List WordAnswer) (g : Group) : Type 0 where
  pub earlier : List ℕ
  pub w₁ : ℕ
  pub w₂ : ℕ
  pub w₃ : ℕ
  pub w₄ : ℕ
  pub x₁ : List ℕ
  pub x₂ : List ℕ
  pub x₃ : List ℕ
  pub f₁ : List Refusal
  pub f₂ : List Refusal
  pub f₃ : List Refusal
  pub later : List ℕ
  pub words_are : words ≡ earlier ++ (sequence w₁ w₂ w₃ x₁ x₂ x₃ ++ (w₄ ∷ later))
  -- it is the answer to part 4
  pub before_is : before ≡ answers new (earlier ++ sequence w₁ w₂ w₃ x₁ x₂ x₃)
  pub in_sequence : PartsInSequence w₁ w₂ w₃ w₄ x₁ x₂ x₃ f₁ f₂ f₃
  pub group : g ≡ group_from w₁ w₂ w₃ w₄

pub carried_by : (w : ℕ) (p : Part) → classify w ≡ part p → Carries document01 p w
carried_by w p e = (carries document01 w p).0 (carried_only (part_in w) p e)

pub answers-append : (s : Reassembler) (xs ys : List ℕ) → answers s (xs ++ ys) ≡ answers s xs ++ answers (after s xs) ys
answers-append s [] ys = refl
answers-append s (x ∷ xs) ys = ap (λ (l : List WordAnswer). (take_word s x).answer ∷ l) (answers-append (take_word s x).next xs ys)
