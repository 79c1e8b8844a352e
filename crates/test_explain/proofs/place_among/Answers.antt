-- Less is left behind each word (`later_starts`).
use Rattle.std.proofs.Common.{ap, arith, length}
use Rattle.typed_texts.specs.TextLaws.{later_starts}
use Rattle.test_explain.proofs.place_among.Goals as goal

pub overflow_sub-start : goal.overflow_sub-start
overflow_sub-start c = omega (arith, ap length c.text_behind.ensures, later_starts 32 c.args.words.now c.loop-start.start c.loop-start-test.true)

pub loop-start-smaller : goal.loop-start-smaller
loop-start-smaller c = omega (arith, ap length c.text_behind.ensures, later_starts 32 c.args.words.now c.loop-start.start c.loop-start-test.true)

pub loop-start-preserved : goal.loop-start-preserved
loop-start-preserved c = omega (arith, ap length c.text_behind.ensures, later_starts 32 c.args.words.now c.loop-start.start c.loop-start-test.true)
