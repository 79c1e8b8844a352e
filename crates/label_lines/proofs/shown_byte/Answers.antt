-- Of all bytes the place itself; of the fifteen the label of the row there, turned.
use mathlib.Core.Path.{◌≡◌, sym, ap, ◌∙◌}
use mathlib.Core.Bool.{Bool, true}
use Prim.Native.Nat.{ℕ, ◌<◌}
use native.Mathlib.Omega.{arith}
use lib.ListN.{length}
use Rattle.labels.specs.declared.Row.{Row}
use Rattle.labels.specs.Label.{label_of}
use Rattle.labels.specs.Table.{row_of}
use Rattle.label_texts.specs.LabelTexts.{shown_bytes}
use Rattle.label_texts.proofs.Theorems.{shown-length}
use Rattle.label_texts.specs.Writers.{shown_at, kind_byte}
use Rattle.label_texts.proofs.Writers.{any_byte}
use Rattle.label_lines.proofs.shown_byte.Goals as goal

within : (all : Bool) (place : ℕ) → place < length (shown_bytes all) → all ≡ true → place < 256
within all place h e = omega (arith, ap (λ (b : Bool). length (shown_bytes b)) e ∙ shown-length true)

pub overflow_cast-result : goal.overflow_cast-result
overflow_cast-result c =
    omega (arith, within c.args.all c.args.place c.requires c.if-all.true)

pub returns-then-all : goal.returns-then-all
returns-then-all c =
    sym (ap (λ (b : Bool). shown_at b c.args.place) c.if-all.true ∙ any_byte c.args.place (within c.args.all c.args.place c.requires c.if-all.true))

pub returns : goal.returns
unfolding row_of
returns c =
    let place = c.args.place in
    c.label_of.ensures ∙ ap (λ (r : Row). label_of r.label) c.row_at-row.ensures
    ∙ sym (ap (λ (b : Bool). shown_at b place) c.if-all.false ∙ kind_byte place)
