-- `signed_numbers::with_sign`: a size below 2 ^ 63 is the number of its own bits, and the complement of a size less 1 is the negative number.
use Rattle.std.specs.Prelude.{Some}
use mathlib.Core.Path.{◌≡◌, refl, sym, ap, ◌∙◌}
use mathlib.Core.Bool.{Bool, true, false, ◌&&◌}
use Prim.Native.Nat.{ℕ, zero, suc, ◌+◌, ◌-◌, ◌≤◌, ◌<◌, ◌^◌}
use native.Mathlib.Omega.{arith}
use borrow.Author.Tests.{ltb-true, ltb-false, lt-ltb}
use lib.Dec.{ltb}
use lib.IntN.{pos}
use mir.Syntax.{w64}
use mir.Val.{to_z, bool_byte}
use mir.Facts.{to_z_pos, to_z-neg}
use Rattle.rounding.specs.Parts.{with_sign}
use Rattle.signed_numbers.specs.Signed.{greatest}
use Rattle.signed_numbers.proofs.SignedTheorems.{signed-number, signed_large}
use Rattle.signed_numbers.proofs.with_sign.Goals as goal

-- the code's greatest size
limit : (b : Bool) → 9223372036854775807 + bool_byte b ≡ greatest b
limit true = omega arith
limit false = omega arith

within : (b : Bool) (size : ℕ) → size ≤ 9223372036854775807 + bool_byte b → size ≤ greatest b
within b size h = omega (arith, limit b)

above : (b : Bool) (size : ℕ) → 9223372036854775807 + bool_byte b < size → greatest b < size
above b size h = omega (arith, limit b)

-- a number below 0
below : (b : Bool) (size : ℕ) → (b && ltb 0 size) ≡ true → (b ≡ true) × (0 < size)
below true size h = (refl, ltb-true 0 size h)
below false size h = let k : ◌≡◌ {A = ℕ} 0 1 = cc in absurd (omega arith)

negative : (b : Bool) (size : ℕ) → b ≡ true → 0 < size → size ≤ greatest b → to_z w64 (18446744073709551615 - (size - 1)) ≡ with_sign b size
negative true zero e h l = absurd (omega arith)
negative true (suc n) e h l =
    let k : 18446744073709551615 - (suc n - 1) ≡ 2 ^ 64 - suc n = omega arith in
    ap (to_z w64) k ∙ to_z-neg w64 n (omega arith)
negative false size e h l = let k : ◌≡◌ {A = ℕ} 0 1 = cc in absurd (omega arith)

-- any other
small : (b : Bool) (size : ℕ) → (b && ltb 0 size) ≡ false → size ≤ greatest b → size < 2 ^ 63
small true size h l = omega (arith, ltb-false 0 size h)
small false size h l = omega arith

same : (b : Bool) (size : ℕ) → (b && ltb 0 size) ≡ false → pos size ≡ with_sign b size
same true zero h = refl
same true (suc n) h = let k : ◌≡◌ {A = ℕ} 0 1 = cc (lt-ltb 0 (suc n) (omega arith)) in absurd (omega arith)
same false size h = refl

pub returns-then-negative-size : goal.returns-then-negative-size
returns-then-negative-size c =
    let b = c.args.negative in
    let size = c.args.size in
    sym (signed_large b size (above b size c.if-negative-size.true))

pub returns-then-negative-size-2 : goal.returns-then-negative-size-2
returns-then-negative-size-2 c =
    let b = c.args.negative in
    let size = c.args.size in
    let l = within b size c.if-negative-size.false in
    let k = below b size c.if-negative-size-2.true in
    ap Some (negative b size k.0 k.1 l) ∙ sym (signed-number b size l)

pub returns : goal.returns
returns c =
    let b = c.args.negative in
    let size = c.args.size in
    let l = within b size c.if-negative-size.false in
    ap Some (to_z_pos w64 (small b size c.if-negative-size-2.false l) ∙ same b size c.if-negative-size-2.false) ∙ sym (signed-number b size l)
