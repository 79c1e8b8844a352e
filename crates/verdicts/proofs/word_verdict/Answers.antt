-- By the two cases of decoding; an accepted word by its label, whether it has a reading and what it measures (specs/Theorems.antt).
use mathlib.Core.Path.{sym, ap₂, ◌∙◌}
use mathlib.Core.Bool.{true}
use mir.Facts.{to_z-of_z}
use Rattle.verdicts.specs.Verdicts.{measurement_verdict}
use Rattle.verdicts.proofs.Theorems.{accepted_verdict}
use Rattle.verdicts.proofs.word_verdict.Goals as goal

pub returns-then-label_of-label : goal.returns-then-label_of-label
returns-then-label_of-label c =
    c.measurement_verdict.ensures
    ∙ ap₂ measurement_verdict c.measurement_of.ensures (to_z-of_z c.ranges.millionths)
    ∙ accepted_verdict c.args.word c.args.label c.args.millionths _ _ true
    (sym c.decode.ensures ∙ c.in-Ok.is)
    c.label_of.ensures
    c.has_reading.ensures
    c.if-label_of-label.true
