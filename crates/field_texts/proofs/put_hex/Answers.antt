-- What has been passed of the bytes has been written.
use native.Mathlib.Omega.{arith}
use Rattle.text.specs.Writing.{named}
use Rattle.text.proofs.Writing.{joined}
use Rattle.hex_texts.specs.HexTexts.{hex_byte}
use Rattle.field_texts.specs.FieldTexts.{each-suc}
use Rattle.field_texts.proofs.put_hex.Goals as goal

pub loop-byte-preserved : goal.loop-byte-preserved
loop-byte-preserved c =
    named (joined c.loop-byte.invariant c.put_hex_byte-next.ensures) (each-suc hex_byte c.args.bytes.now c.loop-byte.byte-index (omega arith))
