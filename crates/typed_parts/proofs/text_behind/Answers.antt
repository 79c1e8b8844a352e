-- By the place of the byte, if there is one (proofs/Parts.antt).
use mathlib.Core.Path.{◌∙◌}
use Prim.Native.Nat.{◌+◌}
use Rattle.typed_parts.proofs.Parts.{rest, behind_at, none_behind}
use Rattle.typed_parts.proofs.text_behind.Goals as goal

pub returns-in-Some : goal.returns-in-Some
returns-in-Some c =
    let text = c.args.text.now in
    rest text (c.in-Some.end + 1) ∙ behind_at c.args.byte text c.in-Some.end (cc)

pub returns-in-None : goal.returns-in-None
returns-in-None c = none_behind c.args.byte c.args.text.now (cc)
