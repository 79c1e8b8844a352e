-- The walk goes on until the note, the end or the refusal decides (`Search`); each step leaves fewer bytes.
use Rattle.std.specs.Prelude.{Ok}
use Rattle.std.proofs.Common.{sym, ap, ◌∙◌, arith}
use Rattle.std.proofs.lemmas.Result.{err_from_is_err_and}
use Rattle.walk.proofs.Fold.{loop_starts, loop_ends, loop_refused, fewer_left}
use Rattle.notes.specs.Note.{found_of}
use Rattle.note_finder.proofs.Search.{seek_fits, seek_found, seek_on}
use Rattle.note_finder.proofs.find_note.Goals as goal

pub loop-field-init : goal.loop-field-init
loop-field-init c = loop_starts c.start-at.ensures

pub returns-in_default : goal.returns-in_default
returns-in_default c = ap (found_of c.args.place) (loop_ends c.loop-field.invariant c.step-step.ensures (c.in_ok-field.was ∙ ap Ok c.in_default.is))

pub returns-in_err-field : goal.returns-in_err-field
returns-in_err-field c =
    let p = err_from_is_err_and c.from_residual.result c.from_residual.ensures.1 in
    rw (p.1, p.2) (ap (found_of c.args.place) (loop_refused c.loop-field.invariant c.step-step.ensures c.in_err-field.was))

pub overflow_add-start : goal.overflow_add-start
overflow_add-start c =
    let fits = seek_fits _ _ _ _ c.loop-field.invariant c.step-step.ensures _ (c.in_ok-field.was ∙ ap Ok c.in-Some.is) (sym c.is_note_at.ensures ∙ c.if-is_note_at.true) in
    omega arith

pub overflow_add-result : goal.overflow_add-result
overflow_add-result c =
    let fits = seek_fits _ _ _ _ c.loop-field.invariant c.step-step.ensures _ (c.in_ok-field.was ∙ ap Ok c.in-Some.is) (sym c.is_note_at.ensures ∙ c.if-is_note_at.true) in
    omega arith

pub returns-then-is_note_at : goal.returns-then-is_note_at
returns-then-is_note_at c = seek_found _ _ _ _ c.loop-field.invariant c.step-step.ensures _ (c.in_ok-field.was ∙ ap Ok c.in-Some.is) (sym c.is_note_at.ensures ∙ c.if-is_note_at.true)

pub loop-field-smaller : goal.loop-field-smaller
loop-field-smaller c = fewer_left c.args.sheet.now c.loop-field.at c.step-step.ensures (c.in_ok-field.was ∙ ap Ok c.in-Some.is)

pub loop-field-preserved : goal.loop-field-preserved
loop-field-preserved c = seek_on _ _ _ _ c.loop-field.invariant c.step-step.ensures _ (c.in_ok-field.was ∙ ap Ok c.in-Some.is) (sym c.is_note_at.ensures ∙ c.if-is_note_at.false)
