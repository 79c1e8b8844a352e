-- A buffer of 196,608 bytes has room for the lines of every sheet's fields.
-- Assumes nothing.
use Rattle.std.specs.Prelude.{◌≡◌, List, ℕ, ◌≤◌, length}
use Rattle.std.proofs.Common.{arith}
use Rattle.field_lines.specs.FieldLines.{text_of}
use Rattle.field_lines.specs.Short.{text_short}

pub fits : (s out : List ℕ) → 196608 ≡ length out → length (text_of s) ≤ length out
fits s out room = omega (arith, room, text_short s)
