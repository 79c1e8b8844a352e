-- The figure's bytes are the content.
use mathlib.Core.Path.{ap, ◌∙◌}
use mathlib.Core.List.{List}
use Prim.Native.Nat.{ℕ}
use mir.Facts.{to_z-of_z}
use Rattle.fields.specs.declared.FieldKind.{FieldKind}
use Rattle.contents.specs.Contents.{figure_bytes}
use Rattle.writer.specs.Write.{write_of}
use Rattle.field_writers.proofs.write_figure.Goals as goal

pub returns-clause-out_after : goal.returns-clause-out_after
returns-clause-out_after c =
    let s = c.args in
    let bytes = (c.figure_bytes-content.ensures ∙ ap (figure_bytes s.label) (to_z-of_z c.ranges.millionths)) in c.put_field.ensures.out_after ∙ ap (λ (l : List ℕ). (write_of s.out.now s.place FieldKind.Figure l).buffer) bytes
