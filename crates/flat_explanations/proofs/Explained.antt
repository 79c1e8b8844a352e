-- The numbers of a reason, or of its refusal.
-- Assumes nothing.
use Rattle.std.specs.Prelude.{◌≡◌, ◌↔◌, Result, Ok, Err}
use Rattle.std.proofs.Common.{ap, arith}
use Rattle.reasons.specs.Reasons.{number_of as reasonNumber}
use Rattle.reasons.proofs.Theorems.{one_number, number-bounds}
use Rattle.reasons.specs.declared.Reason.{Reason}
use Rattle.refusals.specs.declared.Refusal.{Refusal}
use Rattle.flat_explanations.specs.Explained.{flat_explained}

-- A number stands for one reason, and beside a refusal for none.
pub reason_tells : (x : Result Reason Refusal) (r : Reason) → (x ≡ Ok r) ↔ ((flat_explained x).reason ≡ reasonNumber r)
reason_tells (Ok s) r = (λ e. ap (λ (y : Result Reason Refusal). (flat_explained y).reason) e, λ e. ap Ok (one_number s r e))
reason_tells (Err f) r = (λ e. ap (λ (y : Result Reason Refusal). (flat_explained y).reason) e, λ e. absurd (omega (arith, (number-bounds r).0)))
