-- Runs of words from any state: parts 1 to 4 in sequence from one source, with refused words anywhere, give their group, and a group is given only then.
-- Assumes nothing.
use Rattle.std.specs.Prelude.{ℕ, ◌≡◌, refl, true, eqb, Result, Ok, Err}
use Rattle.std.proofs.Common.{sym, ap, ap₂, ◌∙◌}
use mathlib.Core.List.{List, [], ◌∷◌, ◌++◌, map, map-append, append_assoc}
use Rattle.std.specs.Int.Count.{ones_in}
use Rattle.bits.specs.Fields.{bits}
use Rattle.refusals.specs.declared.Refusal.{Refusal}
use Rattle.labels.specs.Table.{row_of}
use Rattle.reassembly_parts.specs.declared.Group.{Group}
use Rattle.reassembly_parts.specs.declared.Part.TheVariants.{One, Two, Three, Four}
use Rattle.reassembly_parts.specs.Run.{Input, part, Reply, group_of}
use Rattle.reassembly_parts.proofs.Run.{nothing-held as Parts-held}
use Rattle.reassembly_parts.proofs.Run.{words-completed}
use Rattle.reassembly_parts.specs.Run.{reply_of, next_of, replies, held_after, others, first_three, first_three_answers}
use Rattle.reassembly_parts.proofs.Provenance.{CompletedBy, completed-only_by}
use Rattle.reassembly_parts.specs.declared.Part.{Part}
use Rattle.reassembly.specs.declared.Reassembler.{Reassembler}
use Rattle.reassembly.specs.declared.WordAnswer.{WordAnswer}
use Rattle.reassembly.specs.declared.WordAnswer.TheVariants.{Incomplete, Complete}
use Rattle.part_words.specs.Parts.{part_in}
use Rattle.reassembly.specs.Step.{new, step_of, take_word}
use Rattle.part_words.specs.Bits.{group_from}
use Rattle.reassembly.specs.Runs.{answers, after, PartsInSequence, sequence, sequence_answers, input_of, classify, word_answer, refused-others, is, sequence-step, sequence-answered, ws, complete_only, cut, headed, others-refused, GivenBy, carried_by, answers-append}

step-answer : (s : Reassembler) (x : Result Part Refusal) → (step_of s x).answer ≡ word_answer (reply_of s.group_c (input_of x))
step-answer s (Ok p) = refl
step-answer s (Err f) = refl

step-next : (s : Reassembler) (x : Result Part Refusal) → (step_of s x).next ≡ record { group_c = next_of s.group_c (input_of x) }
step-next s (Ok p) = refl
step-next s (Err f) = refl

pub answers_are : (s : Reassembler) (ws : List ℕ) → answers s ws ≡ map word_answer (replies s.group_c (map classify ws))
answers_are s [] = refl
answers_are s (w ∷ ws) =
    ap₂ (λ (x : WordAnswer) (l : List WordAnswer). x ∷ l) (step-answer s (part_in w))
    (answers_are (take_word s w).next ws
    ∙ ap (λ (r : Reassembler). map word_answer (replies r.group_c (map classify ws))) (step-next s (part_in w)))

pub after_is : (s : Reassembler) (ws : List ℕ) → after s ws ≡ record { group_c = held_after s.group_c (map classify ws) }
after_is s [] = refl
after_is s (w ∷ ws) =
    after_is (take_word s w).next ws
    ∙ ap (λ (r : Reassembler). record { group_c = held_after r.group_c (map classify ws) }) (step-next s (part_in w))

module _ (s : Reassembler) (earlier later : List ℕ) (w₁ w₂ w₃ w₄ : ℕ) (x₁ x₂ x₃ : List ℕ) (f₁ f₂ f₃ : List Refusal)
    (h : PartsInSequence w₁ w₂ w₃ w₄ x₁ x₂ x₃ f₁ f₂ f₃) where
  sequence_is : map classify (sequence w₁ w₂ w₃ x₁ x₂ x₃) ≡ first_three (bits 9 10 w₁) (bits 14 29 w₁) (bits 14 29 w₂) (bits 14 29 w₃) f₁ f₂ f₃
  sequence_is =
      sequence-step w₁ _ x₁ f₁ _ _ (is w₁ (One _ _) (h.first, refl, refl)) h.refused₁
      (sequence-step w₂ _ x₂ f₂ _ _ (is w₂ (Two _ _) (h.second, h.source₂, refl)) h.refused₂
      (ap₂ (λ (i : Input Refusal) (l : List (Input Refusal)). i ∷ l) (is w₃ (Three _ _) (h.third, h.source₃, refl)) (refused-others x₃ f₃ h.refused₃)))

  words_are : map classify (earlier ++ (sequence w₁ w₂ w₃ x₁ x₂ x₃ ++ (w₄ ∷ later)))
      ≡ map classify earlier ++ (first_three (bits 9 10 w₁) (bits 14 29 w₁) (bits 14 29 w₂) (bits 14 29 w₃) f₁ f₂ f₃
      ++ (part (Four (bits 9 10 w₁) (bits 14 29 w₄) (eqb (bits 11 11 w₄) 1)) ∷ map classify later))
  words_are =
      map-append classify earlier _
      ∙ ap (λ (l : List (Input Refusal)). map classify earlier ++ l)
      (map-append classify (sequence w₁ w₂ w₃ x₁ x₂ x₃) (w₄ ∷ later)
      ∙ ap₂ (λ (l : List (Input Refusal)) (i : Input Refusal). l ++ (i ∷ map classify later)) sequence_is (is w₄ (Four _ _ _) (h.fourth, h.source₄, refl, refl)))

  -- From any state, with any words earlier and later, the four parts in sequence give the group that their bits make. Every refused word has its own
  -- refusal, and the words after part 4 are answered as from a new state.
  pub group_given :
      answers s (earlier ++ (sequence w₁ w₂ w₃ x₁ x₂ x₃ ++ (w₄ ∷ later)))
      ≡ answers s earlier ++ (sequence_answers f₁ f₂ f₃ ++ (Complete (group_from w₁ w₂ w₃ w₄) ∷ answers new later))
  group_given =
      answers_are s (ws s earlier later w₁ w₂ w₃ w₄ x₁ x₂ x₃ f₁ f₂ f₃ h)
      ∙ ap (map word_answer)
      (words-completed classify (ws s earlier later w₁ w₂ w₃ w₄ x₁ x₂ x₃ f₁ f₂ f₃ h) s.group_c (map classify earlier) (map classify later) _ _ _ _ _ _ f₁ f₂ f₃ words_are)
      ∙ map-append word_answer (replies s.group_c (map classify earlier)) _
      ∙ ap₂ (λ (l m : List WordAnswer). l ++ m) (sym (answers_are s earlier))
      (map-append word_answer (first_three_answers f₁ f₂ f₃) _
      ∙ ap₂ (λ (l m : List WordAnswer). l ++ (Complete (group_from w₁ w₂ w₃ w₄) ∷ m)) (sequence-answered s earlier later w₁ w₂ w₃ w₄ x₁ x₂ x₃ f₁ f₂ f₃ h) (sym (answers_are new later)))

  -- Nothing is held after part 4.
  pub nothing-held : after s (earlier ++ (sequence w₁ w₂ w₃ x₁ x₂ x₃ ++ (w₄ ∷ later))) ≡ after new later
  nothing-held =
      after_is s (ws s earlier later w₁ w₂ w₃ w₄ x₁ x₂ x₃ f₁ f₂ f₃ h)
      ∙ ap (λ (l : List (Input Refusal)). record { group_c = held_after s.group_c l }) words_are
      ∙ ap (λ r. record { group_c = r }) (Parts-held s.group_c (map classify earlier) (map classify later) _ _ _ _ _ _ f₁ f₂ f₃)
      ∙ sym (after_is new later)

-- any state, seen as the parts that it holds: a group that is given comes from them and the words, parts 1 to 4 in sequence
pub given_by : (s : Reassembler) (words : List ℕ) (before later : List WordAnswer) (g : Group) → answers s words ≡ before ++ (Complete g ∷ later)
    → (os : List (Reply Refusal)) × (map word_answer os ≡ before) × CompletedBy classify s.group_c words os g
given_by s words before later g e =
    let c = cut word_answer (replies s.group_c (map classify words)) before (Complete g ∷ later) (sym (answers_are s words) ∙ e) in
    let h = headed word_answer c.back (Complete g) later c.back_is in (
      c.front,
      c.front_is,
      completed-only_by classify s.group_c words c.front h.tail g
          (c.whole ∙ ap (λ (l : List (Reply Refusal)). c.front ++ l)
          (h.whole ∙ ap (λ (o : Reply Refusal). o ∷ h.tail) (complete_only h.head g h.head_is))),
    )

-- Wherever a run of words gives a group, parts 1 to 4 in sequence gave it.
pub given-only_by : (words : List ℕ) (before later : List WordAnswer) (g : Group) → answers new words ≡ before ++ (Complete g ∷ later) → GivenBy words before g
given-only_by words before later g e =
    let t = given_by new words before later g e in
    let found = t.2.located in
    let k = t.2.completes in
    let three = t.2.first_three_lem in
    let c₁ = cut classify found.before three.earlier _ three.whole in
    let h₁ = headed classify c₁.back _ _ c₁.back_is in
    let c₂ = cut classify h₁.tail (others three.r₁) _ h₁.tail_is in
    let h₂ = headed classify c₂.back _ _ c₂.back_is in
    let c₃ = cut classify h₂.tail (others three.r₂) _ h₂.tail_is in
    let h₃ = headed classify c₃.back _ _ c₃.back_is in
    let p₁ = carried_by h₁.head (One k.source k.first) h₁.head_is in
    let p₂ = carried_by h₂.head (Two k.source k.second) h₂.head_is in
    let p₃ = carried_by h₃.head (Three k.source k.third) h₃.head_is in
    let p₄ = carried_by found.word (Four k.source k.fourth k.good) (t.2.is_last ∙ ap part k.last) in
    let b : found.before ≡ c₁.front ++ sequence h₁.head h₂.head h₃.head c₂.front c₃.front h₃.tail =
    c₁.whole ∙ ap (λ (l : List ℕ). c₁.front ++ l)
    (h₁.whole ∙ ap (λ (l : List ℕ). h₁.head ∷ l)
    (c₂.whole ∙ ap (λ (l : List ℕ). c₂.front ++ l)
    (h₂.whole ∙ ap (λ (l : List ℕ). h₂.head ∷ l) (c₃.whole ∙ ap (λ (l : List ℕ). c₃.front ++ l) h₃.whole)))) in
    record {
      earlier = c₁.front;
      w₁ = h₁.head;
      w₂ = h₂.head;
      w₃ = h₃.head;
      w₄ = found.word;
      x₁ = c₂.front;
      x₂ = c₃.front;
      x₃ = h₃.tail;
      f₁ = three.r₁;
      f₂ = three.r₂;
      f₃ = three.r₃;
      later = found.after;
      words_are = found.words_are ∙ ap (λ (l : List ℕ). l ++ (found.word ∷ found.after)) b ∙ append_assoc c₁.front _ _;
      before_is = sym t.1 ∙ ap (map word_answer) found.answers_are ∙ sym (answers_are new found.before) ∙ ap (answers new) b;
      in_sequence = record {
        first = p₁.0;
        second = p₂.0;
        third = p₃.0;
        fourth = p₄.0;
        source₂ = p₂.1 ∙ sym p₁.1;
        source₃ = p₃.1 ∙ sym p₁.1;
        source₄ = p₄.1 ∙ sym p₁.1;
        refused₁ = others-refused c₂.front three.r₁ c₂.front_is;
        refused₂ = others-refused c₃.front three.r₂ c₃.front_is;
        refused₃ = others-refused h₃.tail three.r₃ h₃.tail_is;
      };
      group = k.group ∙ λ i. group_of (sym p₁.2 i) (sym p₂.2 i) (sym p₃.2 i) (sym p₄.2 i) (sym p₄.3 i);
    }

-- The same from any state that some words led to: those words and the run together.
pub given-only-after : (history words : List ℕ) (before later : List WordAnswer) (g : Group)
    → answers (after new history) words ≡ before ++ (Complete g ∷ later) → GivenBy (history ++ words) (answers new history ++ before) g
given-only-after history words before later g e =
    given-only_by (history ++ words) (answers new history ++ before) later g
    (answers-append new history words ∙ ap (λ (l : List WordAnswer). answers new history ++ l) e ∙ sym (append_assoc (answers new history) before _))

-- A group with a refused word between its parts (a VOR frequency, 2), and then part 4 again, which is out of sequence (14).
worked :
    answers new (0x1FFC0306 ∷ 0xBFFFE386 ∷ 0x04C80038 ∷ 0xD09F2346 ∷ 0x724B07C6 ∷ 0x724B07C6 ∷ [])
    ≡ Incomplete ∷ Incomplete ∷ WordAnswer.Refused Refusal.Label ∷ Incomplete
    ∷ Complete (record { bits = 10545324736764706784; parity_good = true }) ∷ WordAnswer.Refused Refusal.Sequence ∷ []
unfolding ones_in row_of
worked = refl
