-- What has been passed of the bytes has been written.
use native.Mathlib.Omega.{arith}
use Rattle.text.specs.Writing.{named}
use Rattle.text.proofs.Writing.{joined}
use Rattle.field_texts.specs.FieldTexts.{note_byte, each-suc}
use Rattle.field_texts.proofs.put_note.Goals as goal

pub loop-byte-preserved : goal.loop-byte-preserved
loop-byte-preserved c =
    named (joined c.loop-byte.invariant c.put_note_byte-next.ensures) (each-suc note_byte c.args.bytes.now c.loop-byte.byte-index (omega arith))
