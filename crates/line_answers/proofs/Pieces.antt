-- An input that comes in pieces: the whole lines so far are answered, and the begun one is kept, cut behind byte 202. Whatever the pieces are, the text is that of the whole input.
-- Assumes nothing.
use Rattle.std.specs.Prelude.{◌≡◌, false, List, [], ◌∷◌, ◌++◌, ℕ, ◌+◌, ◌≤◌, length}
use Rattle.std.proofs.Common.{sym, ap, ap₂, ◌∙◌, append_assoc, append-nil, arith, length-append, take_all, length-take-le}
use Rattle.std.proofs.Math.Decide.{dec_le}
use Rattle.std.proofs.lemmas.List.{take-append-le}
use Rattle.typed_texts.specs.Texts.{text_before, text_behind}
use Rattle.typed_texts.specs.TextLaws.{has}
use Rattle.typed_pairs.specs.Pairs.{line_of}
use Rattle.typed_pairs.proofs.Theorems.{long_alike}
use Rattle.answers.specs.declared.Outcome.{Outcome}
use Rattle.line_answers.specs.declared.Progress.{Progress}
use Rattle.text_lines.specs.Lines.{lines_of, whole_lines, begun_line}
use Rattle.text_lines.specs.LineLaws.{begun_unended}
use Rattle.text_lines.proofs.LineLaws.{whole_begun, whole-ended}
use Rattle.line_answers.specs.LineAnswers.{one_more, no_lines, counted, progress_of, answers_text, totals_text, text_from, input_text}
use Rattle.line_answers.proofs.AnswerLaws.{in_pieces}
use Rattle.line_answers.specs.Pieces.{kept, together, pieces_text, first_begun, none_kept, answer-alike, outcome_alike}

first_alike : (p : Progress) (l m : List ℕ) (ls : List (List ℕ)) → line_of l ≡ line_of m → text_from p (l ∷ ls) ≡ text_from p (m ∷ ls)
first_alike p l m ls e =
    ap₂ (λ (a b : List ℕ). a ++ b) (ap (λ (r : List ℕ). r ++ answers_text (one_more p.seen) ls) (answer-alike (one_more p.seen) l m e))
    (ap (λ (o : Outcome). totals_text (progress_of (counted p o) ls)) (outcome_alike l m e))

kept_line : (b x : List ℕ) → 202 ≤ length b → line_of (kept b ++ x) ≡ line_of (b ++ x)
kept_line b x h =
    ap (λ (r : List ℕ). line_of (r ++ x)) (sym (take-append-le 202 b x h)) ∙ long_alike 202 (b ++ x) x (omega arith) (omega (arith, length-append b x))

-- What is kept of a begun line stands for all of it.
pub kept-alike : (p : Progress) (b t : List ℕ) → has 10 b ≡ false → text_from p (lines_of (kept b ++ t)) ≡ text_from p (lines_of (b ++ t))
kept-alike p b t none = go (dec_le 202 (length b))
  where
    go : Dec (202 ≤ length b) → text_from p (lines_of (kept b ++ t)) ≡ text_from p (lines_of (b ++ t))
    go (yes h) =
        ap (text_from p) (first_begun (kept b) t (omega (arith, length-take-le 202 b h)) (none_kept 10 202 b none))
        ∙ first_alike p (kept b ++ text_before 10 t) (b ++ text_before 10 t) (lines_of (text_behind 10 t)) (kept_line b (text_before 10 t) h)
        ∙ ap (text_from p) (sym (first_begun b t (omega arith) none))
    go (no h) = ap (λ (r : List ℕ). text_from p (lines_of (r ++ t))) (take_all 202 b (omega arith))

from_pieces : (p : Progress) (b : List ℕ) (ss : List (List ℕ)) → pieces_text p b ss ≡ text_from p (lines_of (b ++ together ss))
from_pieces p b [] = ap (λ (r : List ℕ). text_from p (lines_of r)) (sym (append-nil b))
from_pieces p b (s ∷ ss) =
    let whole : List ℕ = whole_lines (b ++ s) in
    let begun : List ℕ = begun_line (b ++ s) in
    let q : Progress = progress_of p (lines_of whole) in
    let both = in_pieces p whole (begun ++ together ss) (whole-ended (b ++ s)) in
    ap (λ (r : List ℕ). answers_text p.seen (lines_of whole) ++ r) (from_pieces q (kept begun) ss ∙ kept-alike q begun (together ss) (begun_unended (b ++ s)))
    ∙ sym (append_assoc (answers_text p.seen (lines_of whole)) (answers_text q.seen (lines_of (begun ++ together ss))) (totals_text (progress_of q (lines_of (begun ++ together ss)))))
    ∙ ap₂ (λ (a : List ℕ) (r : Progress). a ++ totals_text r) (sym both.0) (sym both.1)
    ∙ ap (λ (r : List ℕ). text_from p (lines_of r))
    (sym (append_assoc whole begun (together ss)) ∙ ap (λ (r : List ℕ). r ++ together ss) (whole_begun (b ++ s)) ∙ append_assoc b s (together ss))

-- In whatever pieces an input comes, its text is the same.
pub any_pieces : (ss : List (List ℕ)) → pieces_text no_lines [] ss ≡ input_text (together ss)
any_pieces ss = from_pieces no_lines [] ss
