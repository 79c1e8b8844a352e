-- The three tests of the header are those of its bytes (specs/HeaderLemmas.antt).
use mathlib.Core.Path.{sym}
use Rattle.fields.specs.HeaderLemmas.{start_cut}
use Rattle.field_headers.proofs.start_at.Goals as goal

pub returns-then-left-lt3 : goal.returns-then-left-lt3
returns-then-left-lt3 c =
    sym (start_cut c.args.depth c.args.at c.args.run.now c.if-run-at.false c.if-left-lt3.true)
