-- Less is left behind each line (`later_starts`).
use Rattle.std.proofs.Common.{ap, arith, length}
use Rattle.typed_texts.specs.TextLaws.{later_starts}
use Rattle.test_figures.proofs.tally_of.Goals as goal

pub overflow_sub-start : goal.overflow_sub-start
overflow_sub-start c = omega (arith, ap length c.text_behind.ensures, later_starts 10 c.args.text.now c.loop-start.start c.loop-start-test.true)

pub loop-start-smaller : goal.loop-start-smaller
loop-start-smaller c = omega (arith, ap length c.text_behind.ensures, later_starts 10 c.args.text.now c.loop-start.start c.loop-start-test.true)
