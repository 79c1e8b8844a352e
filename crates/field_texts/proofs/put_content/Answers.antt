-- By the field's kind: a blank, and the content's text.
use mathlib.Core.Path.{sym, ap}
use Rattle.fields.specs.declared.FieldKind.{FieldKind}
use Rattle.text.specs.Writing.{named}
use Rattle.text.proofs.Writing.{joined}
use Rattle.field_texts.specs.FieldTexts.{content_text}
use Rattle.field_texts.proofs.put_content.Goals as goal

pub returns-in-Word : goal.returns-in-Word
returns-in-Word c =
    named (joined c.put_byte-next.ensures c.put_hex.ensures)
    (ap (λ (k : FieldKind). content_text k c.args.content.now) (sym c.in-Word.is))

pub returns-in-Figure : goal.returns-in-Figure
returns-in-Figure c =
    named (joined c.put_byte-next-in-Figure.ensures c.put_figure.ensures)
    (ap (λ (k : FieldKind). content_text k c.args.content.now) (sym c.in-Figure.is))

pub returns-in-Note : goal.returns-in-Note
returns-in-Note c =
    named (joined c.put_byte-next-in-Note.ensures c.put_note.ensures)
    (ap (λ (k : FieldKind). content_text k c.args.content.now) (sym c.in-Note.is))
