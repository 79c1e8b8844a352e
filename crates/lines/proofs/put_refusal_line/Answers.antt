-- Three texts in a row, with the refusal by its number.
use mathlib.Core.Path.{ap}
use mathlib.Core.List.{◌++◌}
use Prim.Native.Nat.{ℕ}
use Rattle.text.specs.Ascii.{ascii}
use Rattle.numerals.specs.Digits.{decimal}
use Rattle.text.specs.Writing.{named}
use Rattle.text.proofs.Writing.{joined}
use Rattle.lines.proofs.put_refusal_line.Goals as goal

pub returns : goal.returns
returns c =
    joined
    (joined (named c.put_named-middle.ensures (ap (λ (n : ℕ). ascii "sheet refused " ++ decimal n) c.number.ensures)) c.put_named-end.ensures)
    c.put_byte.ensures
