-- The candidate's label tells whether the word is of its kind.
use mathlib.Core.Path.{sym, ◌∙◌}
use Rattle.word_kinds.specs.HashLemmas.{kind_hit, kind_miss}
use Rattle.word_kinds.proofs.kind_in.Goals as goal

pub returns-then-found-label_of : goal.returns-then-found-label_of
returns-then-found-label_of c =
    let found = c.candidate-found in
    kind_hit c.args.word found.result found.ensures (c.if-found-label_of.true ∙ c.label_of.ensures)

pub returns-else-found-label_of : goal.returns-else-found-label_of
returns-else-found-label_of c =
    let found = c.candidate-found in
    kind_miss c.args.word found.result found.ensures (λ e. c.if-found-label_of.false (e ∙ sym c.label_of.ensures))
