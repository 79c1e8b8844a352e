-- How long the answers to lines and the totals are at most.
-- Assumes nothing.
use Rattle.std.specs.Prelude.{◌≡◌, not, List, [], ◌∷◌, ◌++◌, ℕ, suc, ◌+◌, ◌*◌, ◌≤◌, length}
use Rattle.std.proofs.Common.{ap, ◌∙◌, arith, length-append}
use Rattle.answers.specs.Answers.{answer_text, outcome_of}
use Rattle.answers.proofs.Lengths.{answer-length}
use Rattle.answers.specs.declared.Outcome.{Outcome}
use Rattle.line_answers.specs.declared.Progress.{Progress}
use Rattle.text_lines.specs.Lines.{lines_of, text_of, ended}
use Rattle.text_lines.specs.LineLaws.{feed_for}
use Rattle.text_lines.proofs.LineLaws.{lines_text}
use Rattle.line_answers.specs.LineAnswers.{one_more, is_outcome, counted, progress_of, answers_text, totals_text, text_from}
use Rattle.line_answers.specs.Lengths.{feed_length, Bounded, totals_length, more_within}

lines-length : (n : ℕ) (ls : List (List ℕ)) → length (answers_text n ls) ≤ 64 * length (text_of ls)
lines-length n [] = omega arith
lines-length n (l ∷ ls) =
    let text : length (l ++ (10 ∷ text_of ls)) ≡ length l + suc (length (text_of ls)) = length-append l (10 ∷ text_of ls) in
    let row : length (answer_text (one_more n) l ++ answers_text (one_more n) ls) ≡ length (answer_text (one_more n) l) + length (answers_text (one_more n) ls) = length-append (answer_text (one_more n) l) (answers_text (one_more n) ls) in
    let first : length (answer_text (one_more n) l) ≤ 64 * suc (length l) = answer-length (one_more n) l (omega arith) in
    let later : length (answers_text (one_more n) ls) ≤ 64 * length (text_of ls) = lines-length (one_more n) ls in
    omega arith

-- The answers have 64 bytes at most for each byte of its text, and for one more.
pub answers-length : (n : ℕ) (t : List ℕ) → length (answers_text n (lines_of t)) ≤ 64 * suc (length t)
answers-length n t =
    let bytes : length (text_of (lines_of t)) ≡ length t + length (feed_for (ended t)) = ap length (lines_text t) ∙ length-append t (feed_for (ended t)) in
    omega (arith, lines-length n (lines_of t), feed_length (ended t))

bounded_counted : (p : Progress) (o : Outcome) → Bounded p → Bounded (counted p o)
bounded_counted p o b = record {
  lines_within = more_within (not (is_outcome Outcome.Passed o)) p.lines b.lines_within;
  agree_within = more_within (is_outcome Outcome.Agrees o) p.agree b.agree_within;
  disagree_within = more_within (is_outcome Outcome.Disagrees o) p.disagree b.disagree_within;
  refused_within = more_within (is_outcome Outcome.Refused o) p.refused b.refused_within;
  unread_within = more_within (is_outcome Outcome.Unread o) p.unread b.unread_within;
}

bounded_progress : (p : Progress) (ls : List (List ℕ)) → Bounded p → Bounded (progress_of p ls)
bounded_progress p [] b = b
bounded_progress p (l ∷ ls) b = bounded_progress (counted p (outcome_of l)) ls (bounded_counted p (outcome_of l) b)

-- The same with the totals.
pub end_length : (p : Progress) (t : List ℕ) → Bounded p → length (text_from p (lines_of t)) ≤ 64 * suc (length t) + 141
end_length p t b =
    let both : length (text_from p (lines_of t)) ≡ length (answers_text p.seen (lines_of t)) + length (totals_text (progress_of p (lines_of t))) = length-append (answers_text p.seen (lines_of t)) (totals_text (progress_of p (lines_of t))) in
    omega (arith, answers-length p.seen t, totals_length (progress_of p (lines_of t)) (bounded_progress p (lines_of t) b))
