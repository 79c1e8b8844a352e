-- A buffer of 131,072 bytes has room for the listing of every sheet.
-- Assumes nothing.
use Rattle.std.specs.Prelude.{◌≡◌, List, ℕ, ◌≤◌, length}
use Rattle.std.proofs.Common.{arith}
use Rattle.listing.specs.Listing.{text_of}
use Rattle.listing.specs.Short.{text_short}

pub fits : (s out : List ℕ) → 131072 ≡ length out → length (text_of s) ≤ length out
fits s out room = omega (arith, room, text_short s)
