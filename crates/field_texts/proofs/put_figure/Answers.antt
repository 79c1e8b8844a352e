-- By the figure that the content holds.
use mathlib.Core.Path.{sym, ap, ◌∙◌}
use mathlib.Core.List.{◌++◌}
use lib.IntN.{ℤ}
use mir.Syntax.{w64}
use mir.Facts.{to_z-of_z}
use Rattle.text.specs.Ascii.{ascii}
use Rattle.numerals.specs.Digits.{octal3, signed_fixed}
use Rattle.text.specs.Writing.{named}
use Rattle.text.proofs.Writing.{joined}
use Rattle.field_texts.specs.FieldTexts.{figure_words}
use borrow.Author.Rules.{rules}
use Rattle.field_texts.proofs.put_figure.Goals as goal

pub returns-in-Ok : goal.returns-in-Ok
returns-in-Ok c =
    let content = c.figure_in in
    let e = to_z-of_z {w = w64} {z = c.in-Ok.millionths} (search rules) in
    named (joined (joined c.put_octal3-blank.ensures c.put_byte-number.ensures) c.put_millionths.ensures)
    (ap (λ (z : ℤ). octal3 c.in-Ok.label ++ ascii " " ++ signed_fixed 6 z) e ∙ ap figure_words (sym c.in-Ok.is ∙ content.ensures))
