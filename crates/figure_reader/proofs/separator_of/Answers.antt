-- The text has a point exactly where what stands before it is shorter.
use Rattle.figure_reader.proofs.Reading.{point_there, no_point}
use Rattle.figure_reader.proofs.separator_of.Goals as goal

pub returns-then-before-text : goal.returns-then-before-text
returns-then-before-text c =
    point_there c.args.text.now c.text_before-before.result.now c.text_before-before.ensures c.if-before-text.true

pub returns : goal.returns
returns c =
    no_point c.args.text.now c.text_before-before.result.now c.text_before-before.ensures c.if-before-text.false
