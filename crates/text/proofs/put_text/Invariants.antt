-- What has been passed of the text has been written.
use lib.ListN.{take}
use Rattle.text.specs.Writing.{Writes}
use Rattle.text.proofs.put_text.Given as goal

abbrev pub invariant-loop-byte : goal.invariant-loop-byte
invariant-loop-byte l = Writes l.initial.out l.at (take l.byte-index l.text) l.out l.next
