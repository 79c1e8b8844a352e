-- The text from the end of its blanks on is what stands behind them (`left`).
use mathlib.Core.Bool.{true}
use native.Mathlib.Omega.{arith}
use Rattle.line_parts.proofs.Runs.{place_within, left}
use Rattle.line_parts.proofs.skip_blanks.Goals as goal

pub slice_bounds-result-count : goal.slice_bounds-result-count
slice_bounds-result-count c =
    omega (arith, place_within true c.args.text.now c.run_length-blanks.result c.run_length-blanks.ensures)

pub slice_bounds-result-start : goal.slice_bounds-result-start
slice_bounds-result-start c = place_within true c.args.text.now c.run_length-blanks.result c.run_length-blanks.ensures

pub returns : goal.returns
returns c =
    left true c.args.text.now c.run_length-blanks.result c.run_length-blanks.ensures
