-- What has been passed of the bytes has been written.
use lib.ListN.{take}
use Rattle.text.specs.Writing.{Writes}
use Rattle.field_texts.specs.FieldTexts.{note_text}
use Rattle.field_texts.proofs.put_note.Given as goal

abbrev pub invariant-loop-byte : goal.invariant-loop-byte
invariant-loop-byte l = Writes l.initial.out l.at (note_text (take l.byte-index l.bytes)) l.out l.next
