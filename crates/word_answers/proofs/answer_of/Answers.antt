-- The byte of the candidate's row tells whether the word is of its kind.
use mathlib.Core.Path.{◌∙◌}
use Rattle.word_rows.specs.AskingLaws.{answer_miss}
use Rattle.word_rows.proofs.AskingLaws.{answer_hit}
use Rattle.word_answers.proofs.answer_of.Goals as goal

pub returns-then-asked-word : goal.returns-then-asked-word
returns-then-asked-word c =
    let called = c.asked_of-asked in
    c.known_answer.ensures ∙ answer_hit c.args.word called.result called.ensures c.if-asked-word.true

pub returns-else-asked-word : goal.returns-else-asked-word
returns-else-asked-word c =
    let called = c.asked_of-asked in
    c.unknown_answer.ensures ∙ answer_miss c.args.word called.result called.ensures c.if-asked-word.false
