-- What makes the definitions of `LineAnswers` believable: a text may be answered piece by piece, and the totals are the numbers of lines, which add up.
-- Assumes nothing.
use Rattle.std.specs.Prelude.{◌≡◌, refl, Bool, true, not, List, [], ◌∷◌, ◌++◌, ℕ, ◌+◌, ◌≤◌, ◌<◌, length}
use Rattle.std.proofs.Common.{sym, ap, ◌∙◌, append_assoc, arith}
use Rattle.text.specs.Writing.{last}
use Rattle.answers.specs.Answers.{answer_text, outcome_of}
use Rattle.answers.specs.declared.Outcome.{Outcome}
use Rattle.line_answers.specs.declared.Progress.{Progress}
use Rattle.text_lines.specs.Lines.{lines_of, ended}
use Rattle.text_lines.proofs.LineLaws.{lines-append}
use Rattle.line_answers.specs.LineAnswers.{one_more, no_lines, is_outcome, counted, progress_of, answers_text}
use Rattle.line_answers.specs.AnswerLaws.{progress-append, lines_that, count_from, count_exact, all_lines, agree_from, refused_from, unread_from, Counted, four_outcomes}

answers-append : (p : Progress) (a b : List (List ℕ)) → answers_text p.seen (a ++ b) ≡ answers_text p.seen a ++ answers_text (progress_of p a).seen b
answers-append p [] b = refl
answers-append p (l ∷ a) b =
    let q : Progress = counted p (outcome_of l) in
    ap (λ (r : List ℕ). answer_text q.seen l ++ r) (answers-append q a b)
    ∙ sym (append_assoc (answer_text q.seen l) (answers_text q.seen a) (answers_text (progress_of q a).seen b))

-- The lines before a line feed are answered, and then those behind it from where the first left off.
pub in_pieces : (p : Progress) (s t : List ℕ) → ended s ≡ true
    → (answers_text p.seen (lines_of (s ++ t)) ≡ answers_text p.seen (lines_of s) ++ answers_text (progress_of p (lines_of s)).seen (lines_of t))
    × (progress_of p (lines_of (s ++ t)) ≡ progress_of (progress_of p (lines_of s)) (lines_of t))
in_pieces p s t h =
    (ap (answers_text p.seen) (lines-append s t h) ∙ answers-append p (lines_of s) (lines_of t), ap (progress_of p) (lines-append s t h) ∙ progress-append p (lines_of s) (lines_of t))

-- so each number of the progress is counted by itself
seen_from : (p : Progress) (ls : List (List ℕ)) → (progress_of p ls).seen ≡ count_from (λ (l : List ℕ). true) p.seen ls
seen_from p [] = refl
seen_from p (l ∷ ls) = seen_from (counted p (outcome_of l)) ls

lines_from : (p : Progress) (ls : List (List ℕ)) → (progress_of p ls).lines ≡ count_from (λ (l : List ℕ). not (is_outcome Outcome.Passed (outcome_of l))) p.lines ls
lines_from p [] = refl
lines_from p (l ∷ ls) = lines_from (counted p (outcome_of l)) ls

disagree_from : (p : Progress) (ls : List (List ℕ)) → (progress_of p ls).disagree ≡ count_from (λ (l : List ℕ). is_outcome Outcome.Disagrees (outcome_of l)) p.disagree ls
disagree_from p [] = refl
disagree_from p (l ∷ ls) = disagree_from (counted p (outcome_of l)) ls

-- Each total is the number of the lines of its sort.
pub totals_count : (ls : List (List ℕ)) → length ls ≤ last → Counted (progress_of no_lines ls) ls
totals_count ls h = record {
  seen_is = omega (arith, seen_from no_lines ls, exact (λ (l : List ℕ). true), all_lines ls);
  lines_is = lines_from no_lines ls ∙ exact (λ (l : List ℕ). not (is_outcome Outcome.Passed (outcome_of l)));
  agree_is = agree_from no_lines ls ∙ exact (λ (l : List ℕ). is_outcome Outcome.Agrees (outcome_of l));
  disagree_is = disagree_from no_lines ls ∙ exact (λ (l : List ℕ). is_outcome Outcome.Disagrees (outcome_of l));
  refused_is = refused_from no_lines ls ∙ exact (λ (l : List ℕ). is_outcome Outcome.Refused (outcome_of l));
  unread_is = unread_from no_lines ls ∙ exact (λ (l : List ℕ). is_outcome Outcome.Unread (outcome_of l));
}
  where
    exact : (test : List ℕ → Bool) → count_from test 0 ls ≡ length (lines_that test ls)
    exact test = omega (arith, count_exact test 0 ls (omega arith))

-- The totals of an input add up.
pub totals_add-up : (ls : List (List ℕ)) → length ls ≤ last
    → (progress_of no_lines ls).lines ≡ (progress_of no_lines ls).agree + (progress_of no_lines ls).disagree + (progress_of no_lines ls).refused + (progress_of no_lines ls).unread
totals_add-up ls h =
    let c = totals_count ls h in
    omega (arith, c.lines_is, c.agree_is, c.disagree_is, c.refused_is, c.unread_is, four_outcomes ls)

-- A line is answered by its number, the first by 1.
pub numbered : (a : List (List ℕ)) (l : List ℕ) (b : List (List ℕ)) → length a < last
    → answers_text 0 (a ++ (l ∷ b)) ≡ answers_text 0 a ++ (answer_text (length a + 1) l ++ answers_text (length a + 1) b)
numbered a l b h =
    let seen : (progress_of no_lines a).seen ≡ length a = (totals_count a (omega arith)).seen_is in
    let number : one_more (progress_of no_lines a).seen ≡ length a + 1 = omega arith in
    answers-append no_lines a (l ∷ b) ∙ ap (λ (n : ℕ). answers_text 0 a ++ (answer_text n l ++ answers_text n b)) number
