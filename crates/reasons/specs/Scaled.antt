-- How a reason is found: the eight are asked in their order, each by the figure that it puts in the place of the typed one. `Theorems` says that this is the reason that is told.
-- Assumes nothing.
use Rattle.std.specs.Prelude.{Bool, false, not, cond, List, [], ◌∷◌, ℕ, ◌*◌, ◌/◌, ◌%◌, eqb, ℤ, nat_abs, Option, Some, None}
use Rattle.rounding.specs.Parts.{is_negative}
use Rattle.signed_numbers.specs.Signed.{signed_of}
use Rattle.reasons.specs.declared.Reason.{Reason}
use Rattle.reasons.specs.declared.Reason.TheVariants.{Agrees, Tenth, Hundredth, Thousandth, TenTimes, HundredTimes, ThousandTimes, OtherSign, NoneOfThese}

-- the n-th part of a figure, where that is whole
abbrev pub part_of : ℕ → ℤ → Option ℤ
part_of n z = cond (eqb (nat_abs z % n) 0) (signed_of (is_negative z) (nat_abs z / n)) None

-- n times a figure
abbrev pub multiple_of : ℕ → ℤ → Option ℤ
multiple_of n z = signed_of (is_negative z) (nat_abs z * n)

-- a figure with the other sign
abbrev pub opposite_of : ℤ → Option ℤ
opposite_of z = signed_of (not (is_negative z)) (nat_abs z)

abbrev pub scaled_for : Reason → ℤ → Option ℤ
scaled_for Agrees z = Some z
scaled_for Tenth z = part_of 10 z
scaled_for Hundredth z = part_of 100 z
scaled_for Thousandth z = part_of 1000 z
scaled_for TenTimes z = multiple_of 10 z
scaled_for HundredTimes z = multiple_of 100 z
scaled_for ThousandTimes z = multiple_of 1000 z
scaled_for OtherSign z = opposite_of z
scaled_for NoneOfThese z = None

-- the reasons that are asked, in their order
abbrev pub asked : List Reason
asked = Agrees ∷ Tenth ∷ Hundredth ∷ Thousandth ∷ TenTimes ∷ HundredTimes ∷ ThousandTimes ∷ OtherSign ∷ []

-- the first of some that passes a test
abbrev pub first_of : (Reason → Bool) → List Reason → Reason
first_of passes [] = NoneOfThese
first_of passes (r ∷ rs) = cond (passes r) r (first_of passes rs)

abbrev pub scaled_agrees : (ℤ → Bool) → Option ℤ → Bool
scaled_agrees agrees (Some m) = agrees m
scaled_agrees agrees None = false

unfoldable pub reason_of : (ℤ → Bool) → ℤ → Reason
reason_of agrees z = first_of (λ (r : Reason). scaled_agrees agrees (scaled_for r z)) asked
