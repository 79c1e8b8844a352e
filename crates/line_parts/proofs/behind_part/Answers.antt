-- The text from the end of its first part on is what stands behind that (`left`).
use mathlib.Core.Bool.{false}
use native.Mathlib.Omega.{arith}
use Rattle.line_parts.proofs.Runs.{place_within, left}
use Rattle.line_parts.proofs.behind_part.Goals as goal

pub slice_bounds-result-count : goal.slice_bounds-result-count
slice_bounds-result-count c =
    omega (arith, place_within false c.args.text.now c.run_length-start.result c.run_length-start.ensures)

pub slice_bounds-result-start : goal.slice_bounds-result-start
slice_bounds-result-start c = place_within false c.args.text.now c.run_length-start.result c.run_length-start.ensures

pub returns : goal.returns
returns c =
    left false c.args.text.now c.run_length-start.result c.run_length-start.ensures
