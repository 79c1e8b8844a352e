-- Four texts in a row.
use mathlib.Core.Path.{ap}
use mir.Facts.{to_z-of_z}
use Rattle.text.specs.Writing.{named}
use Rattle.text.proofs.Writing.{joined}
use Rattle.numerals.specs.Digits.{signed_fixed}
use Rattle.explain_lines.proofs.put_pair.Goals as goal

pub returns : goal.returns
returns c =
    let figure = ap (signed_fixed 6) (to_z-of_z c.ranges.millionths) in
    joined (joined (joined c.put_word-blank.ensures c.put_byte-figure.ensures) (named c.put_millionths-colon.ensures figure)) c.put_text.ensures
