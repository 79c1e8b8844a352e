-- The codes of markers, categories and flags, and what each code means. The lowest bit of a field is its first in document 01's print:
-- "10" in bits 11, 12 is the number 1. A number outside its list is refused with 4 before anyone asks what it means; what it is taken for here is told last.
-- Assumes nothing.
use Rattle.std.specs.Prelude.{◌≡◌, refl, false, ℕ, zero, suc}
use Rattle.std.proofs.Common.{sym}
use Rattle.std.proofs.lemmas.Bool.{false≢true}
use Rattle.codes.specs.Codes.{marker_of, marker_listed, unlisted_marker}

pub marker_unlisted : (c : ℕ) → marker_listed c ≡ false → marker_of c ≡ unlisted_marker
marker_unlisted zero h = absurd (false≢true (sym h))
marker_unlisted (suc zero) h = absurd (false≢true (sym h))
marker_unlisted (suc (suc zero)) h = absurd (false≢true (sym h))
marker_unlisted (suc (suc (suc n))) h = refl
