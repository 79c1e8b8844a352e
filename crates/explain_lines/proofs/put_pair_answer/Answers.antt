-- Three texts in a row, by what the word holds.
use mathlib.Core.Path.{ap, ap₂}
use mir.Syntax.{w64}
use mir.Facts.{to_z-of_z}
use Rattle.text.specs.Writing.{named}
use Rattle.text.proofs.Writing.{joined}
use Rattle.answers.specs.Answers.{pair_text}
use Rattle.answers.specs.Held.{held_text}
use Rattle.answers.proofs.Held.{by_held}
use Rattle.explain_lines.proofs.put_pair_answer.Goals as goal

pub returns-clause-text : goal.returns-clause-text
returns-clause-text c =
    let held = c.held_in.ensures in
    let figure = to_z-of_z {w = w64} {z = c.args.millionths} c.ranges.millionths in
    let answer = c.put_held-answered.ensures in named
    (joined (joined (named c.put_pair-why.ensures (ap (pair_text c.args.word) figure)) (named answer.text (ap₂ held_text held figure))) c.put_byte.ensures)
    (by_held c.args.word c.args.millionths)
