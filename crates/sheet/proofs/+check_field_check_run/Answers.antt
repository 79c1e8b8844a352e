-- Each step of the check is one law of specs/StepsLemmas.antt.
use Rattle.std.specs.Prelude.{Result, ℕ, Some, None, Ok, Err}
use Rattle.std.proofs.Common.{◌≡◌, sym, ap, ◌∙◌, suc, ◌+◌, ◌-◌, ◌<◌, arith}
use Rattle.refusals.specs.declared.Refusal.{Refusal}
use Rattle.sheet.specs.Checked.{after_inside}
use Rattle.sheet.specs.StepsLemmas.{next-inside, turn, stands_at, group_depth, group_field}
use Rattle.sheet.proofs.+check_field_check_run.Goals as goal

pub check_field-overflow_add-next : goal.check_field-overflow_add-next
check_field-overflow_add-next t c = let end = (stands_at _ c.args.at _ _ c.args.run.now (sym c.in-Ok-Some.ensures ∙ ap Ok c.in-Ok-Some.field-0-is)).end in omega arith

pub check_field-slice_bounds-check_run-end : goal.check_field-slice_bounds-check_run-end
check_field-slice_bounds-check_run-end t c = let end = (stands_at _ c.args.at _ _ c.args.run.now (sym c.in-Ok-Some.ensures ∙ ap Ok c.in-Ok-Some.field-0-is)).end in omega arith

pub check_field-overflow_add-place-in-Group : goal.check_field-overflow_add-place-in-Group
check_field-overflow_add-place-in-Group t c = let end = (stands_at _ c.args.at _ _ c.args.run.now (sym c.in-Ok-Some.ensures ∙ ap Ok c.in-Ok-Some.field-0-is)).end in omega arith

pub check_field-check_run-requires : goal.check_field-check_run-requires
check_field-check_run-requires t c =
    let here = stands_at _ c.args.at _ _ c.args.run.now (sym c.in-Ok-Some.ensures ∙ ap Ok c.in-Ok-Some.field-0-is) in
    (omega (arith, here.end, here.long, c.decreases), (omega arith, omega (arith, here.end, here.long)))

pub check_field-returns-in-Group : goal.check_field-returns-in-Group
check_field-returns-in-Group t c =
    let n = c.in-Ok-Some.length in
    let deep : 4 - c.args.depths < 4 = group_depth (4 - c.args.depths) c.args.at n c.args.run.now (sym c.in-Ok-Some.ensures ∙ ap Ok c.in-Ok-Some.field-0-is) c.in-Group.is in
    let deeper : 4 - (c.args.depths - 1) ≡ suc (4 - c.args.depths) = omega (arith, deep) in
    c.after_inside.ensures
    ∙ ap (λ (i : Result Unit (Refusal × ℕ)). after_inside i (c.args.at + 3 + n)) c.check_run.ensures
    ∙ group_field (4 - c.args.depths) c.args.at n c.args.run.now (sym c.in-Ok-Some.ensures ∙ ap Ok c.in-Ok-Some.field-0-is) c.in-Group.is c.args.offset (4 - (c.args.depths - 1)) deeper

pub check_run-returns-in-Err : goal.check_run-returns-in-Err
check_run-returns-in-Err t c =
    turn (4 - c.args.depths) c.args.offset c.loop-next.at c.args.run.now _ (Err (c.in-Err.refusal, c.in-Err.place)) c.loop-next.invariant.same (sym c.in-Err.ensures)

pub check_run-returns-in-Ok-None : goal.check_run-returns-in-Ok-None
check_run-returns-in-Ok-None t c =
    turn (4 - c.args.depths) c.args.offset c.loop-next.at c.args.run.now _ (Ok None) c.loop-next.invariant.same (sym c.in-Ok-None.ensures ∙ ap Ok c.in-Ok-None.field-0-is)

pub check_run-loop-next-preserved : goal.check_run-loop-next-preserved
check_run-loop-next-preserved t c =
    let found = sym c.in-Ok-Some.ensures ∙ ap Ok c.in-Ok-Some.field-0-is in
    record {
      inside = (next-inside (4 - c.args.depths) c.args.offset c.loop-next.at c.args.run.now c.in-Ok-Some.next found).1;
      same = turn (4 - c.args.depths) c.args.offset c.loop-next.at c.args.run.now _ (Ok (Some c.in-Ok-Some.next)) c.loop-next.invariant.same found;
    }
