-- A figure for which two reasons hold: the order alone decides which is told.
-- Assumes nothing.
use Rattle.std.specs.Prelude.{refl, pos, negsuc}
use Rattle.std.proofs.Common.{inl, lit≤}
use Rattle.std.specs.Int.Count.{ones_in}
use Rattle.rounding.specs.Rounding.{round_even}
use Rattle.quantities.specs.Nearest.{wrap, circle_nearest, nearest_count}
use Rattle.labels.specs.Table.{row_of}
use Rattle.agreements.specs.Agreement.{agrees_of}
use Rattle.reasons.specs.Reasons.{Holds}
use Rattle.reasons.specs.declared.Reason.{Reason}

-- a VOR azimuth of -0.351562 degrees (label 222, ready), beside which 0.359640 was typed: a thousand times it is that azimuth but for a turn, and so is the figure with the other sign
times_hold : Holds (agrees_of 0x7FF80049) (pos 359640) Reason.ThousandTimes
unfolding ones_in row_of nearest_count circle_nearest wrap round_even
times_hold = inl (pos 359640000, refl, lit≤ tt, refl)

sign-holds : Holds (agrees_of 0x7FF80049) (pos 359640) Reason.OtherSign
unfolding ones_in row_of nearest_count circle_nearest wrap round_even
sign-holds = inl (negsuc 359639, refl, lit≤ tt, refl)
