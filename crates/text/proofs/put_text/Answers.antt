-- What has been passed of the text has been written.
use Rattle.std.proofs.Common.{sym, arith}
use Rattle.std.proofs.lemmas.List.{take_more}
use Rattle.text.specs.Writing.{named}
use Rattle.text.proofs.Writing.{joined}
use Rattle.text.proofs.put_text.Goals as goal

pub loop-byte-preserved : goal.loop-byte-preserved
loop-byte-preserved c =
    named (joined c.loop-byte.invariant c.put_byte-next.ensures) (sym (take_more c.args.text.now c.loop-byte.byte-index 0 (omega arith)))
