-- What the calls give are the parts of the definition.
use mathlib.Core.Path.{ap, ap₂, ◌∙◌}
use Prim.Native.Nat.{ℕ}
use Rattle.typed_texts.specs.Texts.{text_before, text_behind}
use Rattle.typed_figures.specs.Figures.{parts_read, body_read, figure_of}
use Rattle.figure_reader.proofs.read_figure.Goals as goal

pub returns : goal.returns
unfolding figure_of
returns c =
    let negative = c.starts_with-negative in
    let body = c.behind_sign-body in
    let separator = c.separator_of-separator.ensures in
    let before = c.text_before-whole.ensures ∙ ap (λ (x : ℕ). text_before x body.result.now) separator in
    let behind = c.text_behind-decimals.ensures ∙ ap (λ (x : ℕ). text_behind x body.result.now) separator in
    c.read_parts.ensures ∙ ap₂ (parts_read negative.result) before behind ∙ ap₂ body_read negative.ensures body.ensures
