-- A digit that does not go behind those that are read leaves no number.
use mathlib.Core.Path.{sym, ◌∙◌}
use native.Mathlib.Omega.{arith}
use Rattle.typed_numbers.proofs.Reading.{refused}
use Rattle.typed_numbers.proofs.read_number.Goals as goal

pub returns-then-not-goes_behind : goal.returns-then-not-goes_behind
returns-then-not-goes_behind c =
    let l = c.loop-byte in
    refused c.args.base c.args.most c.args.text.now l.value l.byte-index c.digit_of-digit.result l.invariant (omega arith) c.digit_of-digit.ensures (sym c.goes_behind.ensures ∙ c.if-not-goes_behind.true)
