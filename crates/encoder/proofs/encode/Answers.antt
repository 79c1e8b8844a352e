-- The label is that of the record's kind, which has 8 bits.
use mathlib.Core.Path.{ap, ◌∙◌}
use Rattle.labels.specs.declared.Row.{Row}
use Rattle.labels.specs.Table.{row_of}
use Rattle.labels.proofs.Assignment.{document01}
use Rattle.encode.specs.Encode.{encode_as, encode-with}
use Rattle.encoder.proofs.encode.Goals as goal

pub returns : goal.returns
unfolding row_of
returns c =
    let r = c.args.«record» in
    c.encode_as.ensures
    ∙ ap (λ (row : Row). encode_as row.label r) (c.row_of-row.ensures ∙ ap row_of c.kind_of.ensures)
    ∙ encode-with document01 r
