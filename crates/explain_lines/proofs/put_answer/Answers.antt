-- The answer to what is read of the line.
use mathlib.Core.Path.{◌∙◌}
use Rattle.text.specs.Writing.{named}
use Rattle.answers.specs.Answers.{answer_read, outcome_read}
use Rattle.explain_lines.proofs.put_answer.Goals as goal

pub returns-clause-text : goal.returns-clause-text
returns-clause-text c =
    let typed = c.read_line.ensures in
    let answer = c.put_typed_answer.ensures in
    named answer.text (answer_read c.args.number c.args.line.now typed)

pub returns-clause-outcome : goal.returns-clause-outcome
returns-clause-outcome c =
    let typed = c.read_line.ensures in
    let answer = c.put_typed_answer.ensures in
    answer.outcome ∙ outcome_read c.args.line.now typed
