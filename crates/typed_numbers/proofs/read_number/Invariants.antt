-- What is read so far, with the digits that are left behind it, is the whole.
use Rattle.typed_numbers.proofs.Reading.{Reads}
use Rattle.typed_numbers.proofs.read_number.Given as goal

abbrev pub invariant-loop-byte : goal.invariant-loop-byte
invariant-loop-byte l = Reads l.base l.most l.text l.value l.byte-index
