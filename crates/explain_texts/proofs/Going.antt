-- The answers to a text's lines on their way: what is written so far and the answers to the lines ahead make up the whole, and so does the progress.
-- Assumes nothing.
use mathlib.Core.Path.{◌≡◌, refl, sym, ap, ap₂, ◌∙◌}
use mathlib.Core.Bool.{Bool, true, false, cond}
use mathlib.Core.List.{List, [], ◌∷◌, ◌++◌, append_assoc, append-nil}
use Prim.Native.Nat.{ℕ, suc, ◌+◌, ◌-◌, ◌≤◌, ◌<◌}
use native.Mathlib.Omega.{arith}
use lib.Dec.{eqb}
use lib.ListN.{length, take, drop, length-drop, drop_of_length-le}
use lib.Seq.{take_all, drop-drop}
use Rattle.typed_texts.specs.Texts.{text_before, text_behind}
use Rattle.typed_texts.specs.TextLaws.{behind_shorter}
use Rattle.text.specs.Writing.{last, Writes, named, empty}
use Rattle.text.proofs.Writing.{joined}
use Rattle.answers.specs.Answers.{answer_text, outcome_of}
use Rattle.line_answers.specs.declared.Progress.{Progress}
use Rattle.text_lines.specs.Lines.{lines_of}
use Rattle.text_lines.proofs.LineLaws.{by_lines}
use Rattle.line_answers.specs.LineAnswers.{one_more, counted, progress_of, answers_text}
use Rattle.explain_texts.specs.declared.AnsweredLines.{AnsweredLines}

pub record Going (text : List ℕ) (before : Progress) (out₀ out : List ℕ) (answered : AnsweredLines) (ahead : List ℕ) : Type 0 where
  pub done : List ℕ
  pub written : Writes out₀ 0 done out answered.length
  pub text_is : done ++ answers_text answered.after.seen (lines_of ahead) ≡ answers_text before.seen (lines_of text)
  pub progress_is : progress_of answered.after (lines_of ahead) ≡ progress_of before (lines_of text)

-- from the start everything is ahead
pub going_starts : (text : List ℕ) (before : Progress) (out : List ℕ) → length out ≤ last → Going text before out out (record { after = before; length = 0 }) text
going_starts text before out short = record { done = []; written = empty short (omega arith); text_is = refl; progress_is = refl }

no_byte : (t : List ℕ) → length t ≡ 0 → t ≡ []
no_byte [] h = refl
no_byte (c ∷ t) h = absurd (omega arith)

-- what stands behind a line is shorter
pub less_left : (ahead rest : List ℕ) → 0 < length ahead → rest ≡ text_behind 10 ahead → length rest < length ahead
less_left ahead rest h e = let same : length rest ≡ length (text_behind 10 ahead) = ap length e in omega (arith, behind_shorter 10 ahead h)

module _ (text : List ℕ) (before : Progress) (out₀ out : List ℕ) (answered : AnsweredLines) (ahead : List ℕ) (g : Going text before out₀ out answered ahead) where
  -- the end: nothing is ahead
  pub all-written : length ahead ≡ 0 → Writes out₀ 0 (answers_text before.seen (lines_of text)) out answered.length
  all-written h =
      named g.written
      (sym (append-nil g.done) ∙ ap (λ (u : List ℕ). g.done ++ answers_text answered.after.seen (lines_of u)) (sym (no_byte ahead h)) ∙ g.text_is)

  pub all-counted : length ahead ≡ 0 → answered.after ≡ progress_of before (lines_of text)
  all-counted h = ap (λ (u : List ℕ). progress_of answered.after (lines_of u)) (sym (no_byte ahead h)) ∙ g.progress_is

  module _ (h : 0 < length ahead) (line rest : List ℕ) (is-line : line ≡ text_before 10 ahead) (is-rest : rest ≡ text_behind 10 ahead) where
    lines_ahead : lines_of ahead ≡ line ∷ lines_of rest
    lines_ahead = by_lines ahead h ∙ ap₂ (λ (l r : List ℕ). l ∷ lines_of r) (sym is-line) (sym is-rest)

    -- The answer to a line takes the row to the next.
    pub going_on : (out' : List ℕ) (next : AnsweredLines) → Writes out answered.length (answer_text (one_more answered.after.seen) line) out' next.length
        → next.after ≡ counted answered.after (outcome_of line) → Going text before out₀ out' next rest
    going_on out' next w e =
        let later : List (List ℕ) = lines_of rest in
        let answer : List ℕ = answer_text (one_more answered.after.seen) line in
        record {
          done = g.done ++ answer;
          written = joined g.written w;
          text_is =
              append_assoc g.done answer (answers_text next.after.seen later)
              ∙ ap (λ (n : ℕ). g.done ++ (answer ++ answers_text n later)) (ap (λ (p : Progress). p.seen) e)
              ∙ ap (λ (ls : List (List ℕ)). g.done ++ answers_text answered.after.seen ls) (sym lines_ahead)
              ∙ g.text_is;
          progress_is =
              ap (λ (p : Progress). progress_of p later) e ∙ ap (progress_of answered.after) (sym lines_ahead) ∙ g.progress_is;
        }
