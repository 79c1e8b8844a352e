-- The numbers of a reason, or of its refusal.
-- Assumes nothing.
use Rattle.std.specs.Prelude.{Result, Ok, Err}
use Rattle.refusals.specs.Numbers.{number_of}
use Rattle.reasons.specs.Reasons.{number_of as reasonNumber}
use Rattle.reasons.specs.declared.Reason.{Reason}
use Rattle.refusals.specs.declared.Refusal.{Refusal}
use Rattle.flat_explanations.specs.declared.FlatExplained.{FlatExplained}

abbrev pub flat_explained : Result Reason Refusal → FlatExplained
flat_explained (Ok r) = record { refusal = 0; reason = reasonNumber r }
flat_explained (Err f) = record { refusal = number_of f; reason = 0 }
