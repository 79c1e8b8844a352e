-- The zero bits by the row's mask, then the rest of the kind's rules.
use mathlib.Core.Path.{◌≡◌, sym, ap, ◌∙◌}
use Prim.Native.Nat.{ℕ}
use borrow.Author.Tests.{eq-eqb, ne_eqb}
use lib.Bits.{bit_and}
use lib.Dec.{eqb}
use Rattle.bits.specs.Layout.{clear}
use Rattle.bits.proofs.Laws.{mask_test}
use Rattle.records.specs.Layouts.{word_layout}
use Rattle.records.proofs.Layouts.{whole}
use Rattle.records.specs.declared.Kind.{Kind}
use Rattle.labels.specs.declared.Row.{Row}
use Rattle.labels.specs.Table.{row_of}
use Rattle.decode.specs.Decode.{zeros_broken, zeros-kept}
use Rattle.decoder.proofs.decode_kind.Goals as goal

-- the row's mask finds the zero bits of the kind
masked : (k : Kind) (w : ℕ) (r : Row) → r ≡ row_of k → eqb (bit_and w r.zeros) 0 ≡ clear (word_layout k) w
unfolding row_of
masked k w r e = ap (λ (x : Row). eqb (bit_and w x.zeros) 0) e ∙ mask_test (word_layout k) w (whole k)

pub returns-then-word-zeros-ne0 : goal.returns-then-word-zeros-ne0
returns-then-word-zeros-ne0 c =
    let k = c.args.kind in
    let w = c.args.word in
    sym (zeros_broken k w (sym (masked k w c.row_of-row.result c.row_of-row.ensures) ∙ ne_eqb _ 0 c.if-word-zeros-ne0.true))

pub returns : goal.returns
returns c =
    let k = c.args.kind in
    let w = c.args.word in
    c.decode_clear.ensures
    ∙ sym (zeros-kept k w (sym (masked k w c.row_of-row.result c.row_of-row.ensures) ∙ eq-eqb _ 0 c.if-word-zeros-ne0.false))
