-- A number of 64 bits by its sign and its size: every size up to 2 ^ 63 - 1, and 2 ^ 63 below 0 only.
use Rattle.std.specs.Prelude.{Bool, true, false, cond, ℕ, zero, suc, ◌-◌, ◌≤◌, ◌^◌, leb, ℤ, nat_abs, Option, Some, None}
use Rattle.std.proofs.Common.{arith}
use Rattle.rounding.specs.Parts.{is_negative, with_sign}

-- the greatest size of a sign
abbrev pub greatest : Bool → ℕ
greatest true = 2 ^ 63
greatest false = 2 ^ 63 - 1

-- a number of 64 bits
abbrev pub Fits : ℤ → Type 0
Fits z = nat_abs z ≤ greatest (is_negative z)

-- the number of this size and sign
unfoldable pub signed_of : Bool → ℕ → Option ℤ
signed_of negative size = cond (leb size (greatest negative)) (Some (with_sign negative size)) None

-- ---- Theorems

-- a sign and a size within that sign's greatest are a number of 64 bits, and no others are
pub fits : (negative : Bool) (size : ℕ) → size ≤ greatest negative → Fits (with_sign negative size)
fits false size h = h
fits true zero h = omega arith
fits true (suc n) h = h

pub within : (negative : Bool) (size : ℕ) → Fits (with_sign negative size) → size ≤ greatest negative
within false size h = h
within true zero h = omega arith
within true (suc n) h = h
