-- By the place of the byte, if there is one (proofs/Parts.antt).
use Rattle.typed_parts.proofs.Parts.{before_at, all_before}
use Rattle.typed_parts.proofs.text_before.Goals as goal

pub returns-in-Some : goal.returns-in-Some
returns-in-Some c = before_at c.args.byte c.args.text.now c.in-Some.end (cc)

pub returns-in-None : goal.returns-in-None
returns-in-None c = all_before c.args.byte c.args.text.now (cc)
