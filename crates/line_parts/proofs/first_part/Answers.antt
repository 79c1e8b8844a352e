-- The text up to the end of the run is the run (`taken`).
use mathlib.Core.Bool.{false}
use native.Mathlib.Omega.{arith}
use lib.ListN.{length-take}
use Rattle.line_parts.proofs.Runs.{place_within, taken}
use Rattle.line_parts.proofs.first_part.Goals as goal

pub slice_bounds-result-end : goal.slice_bounds-result-end
slice_bounds-result-end c =
    let text = c.args.text.now in
    let run = c.run_length-end in
    omega (arith, length-take run.result text, place_within false text run.result run.ensures)

pub returns : goal.returns
returns c =
    taken false c.args.text.now c.run_length-end.result c.run_length-end.ensures
