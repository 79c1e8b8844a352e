-- What has been passed of the bytes has been written.
use lib.ListN.{take}
use Rattle.text.specs.Writing.{Writes}
use Rattle.field_texts.specs.FieldTexts.{hex_bytes}
use Rattle.field_texts.proofs.put_hex.Given as goal

abbrev pub invariant-loop-byte : goal.invariant-loop-byte
invariant-loop-byte l = Writes l.initial.out l.at (hex_bytes (take l.byte-index l.bytes)) l.out l.next
