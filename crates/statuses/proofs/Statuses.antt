-- The codes of statuses in bits 30 and 31, and what each code means. The lowest bit of a field is its first in document 01's print:
-- "10" is the number 1. A number outside its list is refused with 4 before anyone asks what it means; what it is taken for here is told last.
-- Assumes nothing.
use Rattle.std.specs.Prelude.{◌≡◌, refl, ℕ, zero, suc, ◌<◌}
use Rattle.std.proofs.Common.{arith}
use Rattle.statuses.specs.declared.Status.{Status}
use Rattle.statuses.specs.declared.Status.TheVariants.{Failure, NoData, Test, Ready}
use Rattle.statuses.specs.Statuses.{binary_code, binary_status}

pub binary_code_lem : (c : ℕ) → c < 4 → binary_code (binary_status c) ≡ c
binary_code_lem zero h = refl
binary_code_lem (suc zero) h = refl
binary_code_lem (suc (suc zero)) h = refl
binary_code_lem (suc (suc (suc n))) h = omega arith

pub binary_status_lem : (s : Status) → binary_status (binary_code s) ≡ s
binary_status_lem Failure = refl
binary_status_lem NoData = refl
binary_status_lem Test = refl
binary_status_lem Ready = refl
