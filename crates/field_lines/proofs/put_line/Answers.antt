-- Three texts in a row; the content is the part of the sheet behind the header (specs/LoopLemmas.antt).
use mathlib.Core.Path.{refl}
use Rattle.text.specs.Writing.{named}
use Rattle.text.proofs.Writing.{joined}
use Rattle.field_lines.specs.LoopLemmas.{part_line}
use Rattle.field_lines.proofs.put_line.Goals as goal

pub returns : goal.returns
returns c =
    named (joined (joined c.put_head-first.ensures c.put_content-second.ensures) c.put_byte.ensures)
    (part_line c.args.sheet.now c.args.field c.args.field.kind refl c.requires)
