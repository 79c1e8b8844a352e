-- Each turn writes a field's line and counts it; what is written and what is ahead stay the sheet's (specs/LoopLemmas.antt).
use Rattle.std.specs.Prelude.{Ok}
use Rattle.std.proofs.Common.{ap, ◌∙◌}
use native.Mathlib.Omega.{arith}
use Rattle.walk.proofs.Fold.{field_ends, fewer_left, few_below}
use Rattle.listing.specs.LoopLemmas.{going_starts, going_on}
use Rattle.listing.proofs.LoopLemmas.{with-total, with_refusal}
use Rattle.listing.proofs.put_listing.Goals as goal

pub loop-given-init : goal.loop-given-init
loop-given-init c =
    going_starts _ _ _ (omega arith) c.start-walk.ensures

pub put_field-progress-requires : goal.put_field-progress-requires
put_field-progress-requires c =
    let s = c.args.sheet.now in
    let loop = c.loop-given in
    let found = c.step-step.ensures in
    (field_ends s loop.walk found (c.in-Ok.is ∙ ap Ok c.in-Some.is), (omega (arith, few_below s loop.walk found (c.in-Ok.is ∙ ap Ok c.in-Some.is) loop.invariant.few), omega (arith, few_below s loop.walk found (c.in-Ok.is ∙ ap Ok c.in-Some.is) loop.invariant.fewer)))

pub loop-given-smaller : goal.loop-given-smaller
loop-given-smaller c =
    fewer_left c.args.sheet.now c.loop-given.walk
    c.step-step.ensures (c.in-Ok.is ∙ ap Ok c.in-Some.is)

pub loop-given-preserved : goal.loop-given-preserved
loop-given-preserved c =
    going_on _ _ _ _ _ _ c.loop-given.invariant c.step-step.ensures _ _ _ (c.in-Ok.is ∙ ap Ok c.in-Some.is) c.put_field-progress.ensures

pub returns-in-Err : goal.returns-in-Err
returns-in-Err c =
    with_refusal _ _ _ _ _ _ c.loop-given.invariant c.step-step.ensures _ _ c.in-Err.is _ _ c.put_refusal_line.ensures

pub returns-in_default : goal.returns-in_default
returns-in_default c =
    with-total _ _ _ _ _ _ c.loop-given.invariant c.step-step.ensures (c.in-Ok.is ∙ ap Ok c.in_default.is) _ _ c.put_total_line.ensures
