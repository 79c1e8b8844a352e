-- By the place of the last line feed, if there is one (proofs/Searching.antt).
use Rattle.std.proofs.Common.{rules}
use Rattle.line_ends.proofs.Searching.{last_feed, no_feed}
use Rattle.line_ends.proofs.whole_lines.Goals as goal

pub returns-in-Some : goal.returns-in-Some
returns-in-Some c = last_feed c.args.text.now c.in-Some.last (search rules) (search rules) (search rules)

pub returns-in-None : goal.returns-in-None
returns-in-None c = no_feed c.args.text.now (search rules)
