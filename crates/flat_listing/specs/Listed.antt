-- The numbers of what a listing into a buffer gives, and a buffer that always suffices.
-- Assumes nothing.
use Rattle.std.specs.Prelude.{◌≡◌, List, ℕ, ◌≤◌, length, Result, Ok, Err}
use Rattle.std.proofs.Common.{arith, le-ltb}
use Rattle.refusals.specs.Numbers.{number_of}
use Rattle.refusals.specs.declared.Refusal.{Refusal}
use Rattle.listing.specs.Listing.{text_of, listed_of}
use Rattle.listing.specs.Short.{text_short}
use Rattle.flat_listing.specs.declared.FlatListed.{FlatListed}

abbrev pub flat_listed : Result ℕ Refusal → FlatListed
flat_listed (Ok n) = record { refusal = 0; length = n }
flat_listed (Err f) = record { refusal = number_of f; length = 0 }

-- A buffer of 117,085 bytes has room for every listing.
pub always_room : (s out : List ℕ) → 117085 ≤ length out → flat_listed (listed_of (text_of s) out) ≡ record { refusal = 0; length = length (text_of s) }
always_room s out h = rw (le-ltb (length out) (length (text_of s)) (omega (arith, text_short s)))
