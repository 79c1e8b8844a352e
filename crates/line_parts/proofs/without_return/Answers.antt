-- By the last byte, if there is one (proofs/Returns.antt).
use native.Mathlib.Omega.{arith}
use Rattle.line_parts.proofs.Returns.{return_last, other_last}
use Rattle.line_parts.proofs.without_return.Goals as goal

pub returns-in-Some : goal.returns-in-Some
returns-in-Some c = return_last c.args.line.now c.in-Some.rest.now c.in-Some.field-0-0.now c.in-Some.ensures.cases.0 (omega arith)

pub returns-in_default : goal.returns-in_default
returns-in_default c = other_last c.args.line.now c.in-Some.rest.now c.in-Some.field-0-0.now c.in-Some.ensures.cases.0 (λ e. omega arith)
