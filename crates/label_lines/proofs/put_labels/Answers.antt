-- What has been passed of the bytes has been written.
use mathlib.Core.Path.{ap, ◌∙◌}
use mathlib.Core.List.{◌++◌}
use Prim.Native.Nat.{ℕ}
use native.Mathlib.Omega.{arith}
use lib.ListN.{take}
use Rattle.records.specs.declared.Kind.TheVariants.{VorAzimuth}
use Rattle.labels.specs.Table.{byte_of}
use Rattle.text.specs.Writing.{named}
use Rattle.text.proofs.Writing.{joined}
use Rattle.label_texts.specs.LabelTexts.{label_line, label_lines, shown_bytes}
use Rattle.label_texts.specs.Writers.{lines_more}
use Rattle.label_lines.proofs.put_labels.Goals as goal

pub loop-place-preserved : goal.loop-place-preserved
loop-place-preserved c =
    let loop = c.loop-place in
    let shown = shown_bytes c.args.all in (
      omega arith,
      named (joined loop.invariant.1 c.put_line-next.ensures)
          (ap (λ (b : ℕ). label_lines (take loop.place shown) ++ label_line b) c.shown_byte.ensures
          ∙ lines_more shown loop.place (byte_of VorAzimuth) (omega (arith, c.loop-place-test.true, c.shown_count-count.ensures))),
    )
