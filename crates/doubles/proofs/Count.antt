-- The count that the machine reads back from its 16 bits is the count, so that what holds of a definition at every count holds of the code's result.
-- Assumes nothing.
use mathlib.Core.Path.{◌≡◌, ap, sym, subst}
use lib.IntN.{ℤ}
use lib.Ieee.{Float}
use mir.Syntax.{w16}
use mir.Val.{to_z, of_z, SFits}
use mir.ValLaws.{to_z-of_z}
use Rattle.doubles.specs.Exact.{IsCount}

pub at_count : (F : ℤ → Float) (P : ℤ → Float → Type 0) → ((n : ℤ) → IsCount n → P n (F n)) → (count : ℤ) → SFits w16 count
    → (F (to_z w16 (of_z w16 count)) ≡ F count) × P count (F (to_z w16 (of_z w16 count)))
at_count F P law count fits =
    let read = ap F (to_z-of_z w16 count fits) in
    (read, subst (P count) (sym read) (law count fits.sfits))
