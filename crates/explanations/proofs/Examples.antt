-- A figure for which two reasons hold: the order alone decides which is told.
-- Assumes nothing.
use Rattle.std.specs.Prelude.{◌≡◌, refl, pos, Ok}
use Rattle.std.specs.Int.Count.{ones_in}
use Rattle.rounding.specs.Rounding.{round_even}
use Rattle.quantities.specs.Nearest.{wrap, circle_nearest, nearest_count}
use Rattle.labels.specs.Table.{row_of}
use Rattle.signed_numbers.specs.Signed.{signed_of}
use Rattle.reasons.specs.Scaled.{reason_of}
use Rattle.reasons.specs.declared.Reason.{Reason}
use Rattle.explanations.specs.Explanations.{explained_of}

-- the earlier one is told
times_told : explained_of 0x7FF80049 (pos 359640) ≡ Ok Reason.ThousandTimes
unfolding ones_in row_of nearest_count circle_nearest wrap round_even reason_of signed_of
times_told = refl
