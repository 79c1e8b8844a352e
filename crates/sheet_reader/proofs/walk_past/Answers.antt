-- At the end and at a refusal the steps lead nowhere (`stopped`).
use Rattle.std.proofs.Common.{◌≡◌, sym, ap, ap₂, ◌∙◌, false, suc, ◌+◌, ◌-◌, ℕ, arith}
use Rattle.walk.specs.declared.WalkStep.{WalkStep}
use Rattle.walk.specs.Step.{step_of}
use Rattle.walk.specs.Walked.{after as afterSteps}
use Rattle.reader.specs.Fields.{is_field}
use Rattle.reader.proofs.Fields.{stopped}
use Rattle.sheet_reader.proofs.walk_past.Goals as goal

pub returns-then-not-is_field : goal.returns-then-not-is_field
returns-then-not-is_field c =
    let s = c.args.sheet.now in
    let l = c.loop in
    let gone : is_field (step_of s l.at).given ≡ false =
    sym (ap (λ (x : WalkStep). is_field x.given) c.step-step.ensures) ∙ sym c.is_field.ensures ∙ c.if-not-is_field.true in
    sym (stopped s l.at (c.args.count - l.counter) gone) ∙ l.invariant.1

pub loop-preserved : goal.loop-preserved
loop-preserved c =
    let s = c.args.sheet.now in
    let l = c.loop in
    let left : c.args.count - l.counter ≡ suc (c.args.count - (l.counter + 1)) = omega arith in (
      omega arith,
      ap (λ (w : WalkStep). afterSteps (c.args.count - (l.counter + 1)) s w.next) c.step-step.ensures
          ∙ ap (λ (n : ℕ). afterSteps n s l.at) (sym left)
          ∙ l.invariant.1,
    )

pub returns : goal.returns
returns c =
    let l = c.loop in
    let done : 0 ≡ c.args.count - l.counter = omega arith in
    ap (λ (n : ℕ). afterSteps n c.args.sheet.now l.at) done ∙ l.invariant.1
