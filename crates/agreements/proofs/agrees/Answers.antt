-- Of an accepted word the count is compared with the nearest one, which the law says is agreement.
use Rattle.std.proofs.Common.{sym, ap, ap₂, ◌∙◌, to_z-of_z}
use Rattle.labels.proofs.Assignment.{document01}
use Rattle.agreements.specs.Agreement.{decoded_measurement, holds_nearest}
use Rattle.agreements.specs.Agreeing.{agrees-tested}
use Rattle.agreements.proofs.agrees.Goals as goal

pub returns-in-Ok : goal.returns-in-Ok
returns-in-Ok c =
    let decoded = sym c.in-Ok.is ∙ c.decode.ensures in
    c.holds_nearest.ensures
    ∙ ap₂ holds_nearest (c.measurement_of.ensures ∙ ap decoded_measurement decoded) (to_z-of_z c.ranges.millionths)
    ∙ sym (agrees-tested document01 c.args.millionths c.args.word)
