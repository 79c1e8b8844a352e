-- The answers and the totals in a row; the buffer has room for them (`end_length`).
use Rattle.std.proofs.Common.{ap, ◌++◌, arith}
use Rattle.text.specs.Writing.{named, whole}
use Rattle.text.proofs.Writing.{joined}
use Rattle.line_answers.specs.declared.Progress.{Progress}
use Rattle.text_lines.specs.Lines.{lines_of}
use Rattle.line_answers.specs.LineAnswers.{answers_text, totals_text}
use Rattle.line_answers.specs.Lengths.{Bounded}
use Rattle.line_answers.proofs.Lengths.{end_length}
use Rattle.explain.proofs.put_end.Goals as goal

pub returns-clause-prefix_len : goal.returns-clause-prefix_len
returns-clause-prefix_len c =
    let before = c.args.before in
    let begun = c.args.begun.now in
    let bounded : Bounded before = record { lines_within = omega arith; agree_within = omega arith; disagree_within = omega arith; refused_within = omega arith; unread_within = omega arith } in
    let text = named (joined c.explain_text-answered.ensures.text c.put_totals.ensures) (ap (λ (p : Progress). answers_text before.seen (lines_of begun) ++ totals_text p) c.explain_text-answered.ensures.progress) in
    (whole text (omega (arith, end_length before begun bounded, c.requires.0, c.requires.1))).0

pub returns-clause-text_after : goal.returns-clause-text_after
returns-clause-text_after c =
    let before = c.args.before in
    let begun = c.args.begun.now in
    let bounded : Bounded before = record { lines_within = omega arith; agree_within = omega arith; disagree_within = omega arith; refused_within = omega arith; unread_within = omega arith } in
    let text = named (joined c.explain_text-answered.ensures.text c.put_totals.ensures) (ap (λ (p : Progress). answers_text before.seen (lines_of begun) ++ totals_text p) c.explain_text-answered.ensures.progress) in
    (whole text (omega (arith, end_length before begun bounded, c.requires.0, c.requires.1))).1
