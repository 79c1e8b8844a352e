-- The reason alone, or with the word's figure behind it.
use mathlib.Core.Path.{ap, ◌∙◌}
use mir.Facts.{to_z-of_z}
use Rattle.text.specs.Writing.{named}
use Rattle.text.proofs.Writing.{joined}
use Rattle.numerals.specs.Digits.{signed_fixed}
use Rattle.reason_texts.specs.ReasonTexts.{because_other}
use Rattle.reason_texts.proofs.put_because.Goals as goal

pub returns : goal.returns
returns c =
    let figure = ap (signed_fixed 6) (to_z-of_z c.ranges.figure) in
    named
    (joined (joined c.put_reason-behind.ensures c.put_text-says.ensures) (named c.put_millionths.ensures figure))
    (because_other c.args.reason c.args.figure (λ e. c.if-number-eq1.false (c.number.ensures ∙ e)))
