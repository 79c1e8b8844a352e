-- What the calls give are the parts of the definition.
use Rattle.std.specs.Prelude.{Option, ℕ, ℤ}
use mathlib.Core.Path.{◌≡◌, ap, ap₂, ◌∙◌}
use Rattle.typed_words.specs.Words.{word_of}
use Rattle.typed_figures.specs.Figures.{figure_of}
use Rattle.typed_lines.specs.Lines.{skip_blanks, first_part, behind_part}
use Rattle.typed_lines.specs.TwoParts.{behind_first}
use Rattle.typed_pairs.specs.Pairs.{pair_of, pair_in}
use Rattle.pair_reader.proofs.read_pair.Goals as goal

pub returns : goal.returns
unfolding pair_in
returns c =
    let text = c.args.text.now in
    let start = c.skip_blanks-start.ensures in
    let word = c.read_word-word.ensures ∙ ap word_of (c.first_part.ensures ∙ ap first_part start) in
    let behind : c.skip_blanks-behind.result.now ≡ behind_first text =
    c.skip_blanks-behind.ensures ∙ ap skip_blanks (c.behind_part.ensures ∙ ap behind_part start) in
    let figure = c.read_figure-figure.ensures ∙ ap figure_of (c.first_part-2.ensures ∙ ap first_part behind) in
    let rest = c.skip_blanks-rest.ensures ∙ ap skip_blanks (c.behind_part-2.ensures ∙ ap behind_part behind) in
    c.pair_of.ensures
    ∙ ap₂ (λ (x : Option ℕ) (y : Option ℤ). pair_of x y c.skip_blanks-rest.result.now) word figure
    ∙ ap (pair_of (word_of (first_part (skip_blanks text))) (figure_of (first_part (behind_first text)))) rest
