-- Two texts in a row, the second by whether there are places.
use mathlib.Core.Path.{sym, ap}
use Prim.Native.Nat.{ℕ}
use Rattle.numerals.specs.Digits.{fixed}
use Rattle.text.specs.Writing.{named}
use Rattle.text.proofs.Writing.{joined}
use Rattle.numerals.specs.Theorems.{fixed-pointed}
use Rattle.decimals.proofs.put_signed.Goals as goal

pub returns-then-places-eq0 : goal.returns-then-places-eq0
returns-then-places-eq0 c =
    joined c.put_sign-whole.ensures
    (named c.put_decimal.ensures (ap (λ (p : ℕ). fixed p c.args.size) (sym c.if-places-eq0.true)))

pub returns : goal.returns
returns c =
    joined c.put_sign-whole.ensures
    (named c.put_pointed.ensures (fixed-pointed c.args.places c.args.size c.if-places-eq0.false))
