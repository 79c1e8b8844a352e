-- With no places the point stands behind the whole number; one place is one digit more behind it, and three are three.
use mathlib.Core.Path.{sym, ap, ◌∙◌}
use Prim.Native.Nat.{ℕ}
use Rattle.numerals.specs.Digits.{pointed}
use Rattle.text.specs.Writing.{named}
use Rattle.text.proofs.Writing.{joined}
use Rattle.numerals.specs.Theorems.{pointed-none, pointed_more, pointed_thousands}
use Rattle.decimals.proofs.+put_pointed.Goals as goal

pub returns-then-places-eq0 : goal.returns-then-places-eq0
returns-then-places-eq0 t c =
    let n = c.args.number in
    named (joined c.put_decimal-point.ensures c.put_byte.ensures)
    (sym (pointed-none n) ∙ ap (λ (p : ℕ). pointed p n) (sym c.if-places-eq0.true))

pub returns-then-places-ge3 : goal.returns-then-places-ge3
returns-then-places-ge3 t c =
    named (joined c.put_pointed-next.ensures c.put_three.ensures)
    (sym (pointed_thousands c.args.places c.args.number c.if-places-ge3.true))

pub returns : goal.returns
returns t c =
    named (joined c.put_pointed-last.ensures c.put_digit.ensures)
    (sym (pointed_more c.args.places c.args.number c.if-places-eq0.false))
