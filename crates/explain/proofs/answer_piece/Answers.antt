-- The whole lines are the first bytes, and the begun one stands behind them (proofs/Parting.antt).
use Rattle.std.proofs.Common.{◌∙◌, ap, sym, arith, List, ℕ, take, length-take-le}
use Rattle.text_lines.specs.Lines.{lines_of}
use Rattle.line_answers.specs.LineAnswers.{answers_text, progress_of}
use Rattle.explain.proofs.Parting.{whole_within, whole_part, begun_part}
use Rattle.explain.proofs.answer_piece.Goals as goal

pub slice_bounds-explain_whole-end : goal.slice_bounds-explain_whole-end
slice_bounds-explain_whole-end c =
    let within = whole_within c.args.buffer.now c.args.filled c.whole_lines-whole.result c.requires.1 c.whole_lines-whole.ensures in
    omega (arith, within, c.requires.1)

pub slice_bounds-explain_whole-end-2 : goal.slice_bounds-explain_whole-end-2
slice_bounds-explain_whole-end-2 c =
    let within = whole_within c.args.buffer.now c.args.filled c.whole_lines-whole.result c.requires.1 c.whole_lines-whole.ensures in
    sym (length-take-le c.whole_lines-whole.result c.args.buffer.now (omega (arith, within, c.requires.1)))

pub explain_whole-answered-requires : goal.explain_whole-answered-requires
explain_whole-answered-requires c =
    let within = whole_within c.args.buffer.now c.args.filled c.whole_lines-whole.result c.requires.1 c.whole_lines-whole.ensures in
    (omega (arith, within, c.requires.0, length-take-le c.whole_lines-whole.result c.args.buffer.now (omega (arith, within, c.requires.1))), c.requires.2)

pub keep_begun-begun-requires : goal.keep_begun-begun-requires
keep_begun-begun-requires c = (whole_within c.args.buffer.now c.args.filled c.whole_lines-whole.result c.requires.1 c.whole_lines-whole.ensures, c.requires.1)

pub returns-clause-text_after : goal.returns-clause-text_after
returns-clause-text_after c = c.explain_whole-answered.ensures.text_after ∙ ap (λ (l : List ℕ). answers_text c.args.before.seen (lines_of l)) (whole_part c.args.buffer.now c.args.filled c.whole_lines-whole.result c.requires.1 c.whole_lines-whole.ensures)

pub returns-clause-after_value : goal.returns-clause-after_value
returns-clause-after_value c = c.explain_whole-answered.ensures.after_value ∙ ap (λ (l : List ℕ). progress_of c.args.before (lines_of l)) (whole_part c.args.buffer.now c.args.filled c.whole_lines-whole.result c.requires.1 c.whole_lines-whole.ensures)

pub returns-clause-buffer_after : goal.returns-clause-buffer_after
returns-clause-buffer_after c = c.keep_begun-begun.ensures.buffer_after ∙ ap (take 202) (begun_part c.args.buffer.now c.args.filled c.whole_lines-whole.result c.requires.1 c.whole_lines-whole.ensures)
