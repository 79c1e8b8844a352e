-- One more turn stores the next byte of the content.
use Rattle.std.proofs.Common.{sym, ap, ◌∙◌, add-one, arith, List, ℕ, ◌+◌, ◌<◌, length, slice_index_or, slice_set, length-set}
use Rattle.std.proofs.Math.Seq.{paste, paste-suc}
use Rattle.field_store.proofs.copy_to.Goals as goal

pub loop-i-preserved : goal.loop-i-preserved
loop-i-preserved c =
    let l = c.loop-i in
    let i : ℕ = l.i in
    let room : c.args.at + i < length c.args.out.now = omega arith in
    let in-content : i < length c.args.content.now = omega arith in (
      length-set l.out (c.args.at + i) (slice_index_or c.args.content.now i 0) ∙ l.invariant.0,
      ap (λ (o : List ℕ). slice_set o (c.args.at + i) (slice_index_or c.args.content.now i 0)) l.invariant.1
          ∙ paste-suc c.args.out.now c.args.at c.args.content.now i 0 room in-content
          ∙ ap (paste c.args.out.now c.args.at c.args.content.now) (sym (add-one i)),
    )
