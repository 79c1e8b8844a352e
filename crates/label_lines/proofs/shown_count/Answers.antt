-- By whether all are shown.
use mathlib.Core.Path.{sym, ap, ◌∙◌}
use mathlib.Core.Bool.{Bool, true, false}
use lib.ListN.{length}
use Rattle.label_texts.specs.LabelTexts.{shown_bytes}
use Rattle.label_texts.proofs.Theorems.{shown-length}
use Rattle.label_lines.proofs.shown_count.Goals as goal

pub returns-then-all : goal.returns-then-all
returns-then-all c =
    sym (ap (λ (b : Bool). length (shown_bytes b)) c.if-all.true ∙ shown-length true)

pub returns : goal.returns
returns c =
    sym (ap (λ (b : Bool). length (shown_bytes b)) c.if-all.false ∙ shown-length false)
