-- The buffer has room for the answers to every piece (`answers-length`), so they stand whole at its start.
use Rattle.std.proofs.Common.{arith}
use Rattle.line_answers.proofs.Lengths.{answers-length}
use Rattle.text.specs.Writing.{whole}
use Rattle.explain.proofs.explain_whole.Goals as goal

pub returns-clause-prefix_len : goal.returns-clause-prefix_len
returns-clause-prefix_len c = (whole c.explain_text.ensures.text (omega (arith, answers-length c.args.before.seen c.args.lines.now, c.requires.0, c.requires.1))).0

pub returns-clause-text_after : goal.returns-clause-text_after
returns-clause-text_after c = (whole c.explain_text.ensures.text (omega (arith, answers-length c.args.before.seen c.args.lines.now, c.requires.0, c.requires.1))).1
