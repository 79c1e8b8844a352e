-- A number below a thousand by how many digits there are, and any other is a number with three digits behind it.
use Rattle.std.proofs.Common.{sym, arith}
use Rattle.text.specs.Writing.{named}
use Rattle.text.proofs.Writing.{joined}
use Rattle.numerals.specs.Theorems.{decimal_digit, decimal_two, decimal_three, decimal_thousands}
use Rattle.decimals.proofs.+put_decimal.Goals as goal

pub returns-then-number-lt10 : goal.returns-then-number-lt10
returns-then-number-lt10 t c = named c.put_digit.ensures (sym (decimal_digit c.args.number (omega arith)))

pub returns-then-number-lt100 : goal.returns-then-number-lt100
returns-then-number-lt100 t c =
    named (joined c.put_digit-units.ensures c.put_digit-then-number-lt100.ensures)
    (sym (decimal_two c.args.number (omega arith) (omega arith)))

pub returns-then-number-lt1000 : goal.returns-then-number-lt1000
returns-then-number-lt1000 t c =
    named c.put_three.ensures (sym (decimal_three c.args.number (omega arith) (omega arith)))

pub returns : goal.returns
returns t c =
    named (joined c.put_decimal-next.ensures c.put_three-2.ensures)
    (sym (decimal_thousands c.args.number (omega arith)))
