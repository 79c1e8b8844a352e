-- The power of two that the machine makes is that of the width, which is 16 at most.
use mathlib.Core.Path.{ap, ◌∙◌}
use Prim.Native.Nat.{ℕ, ◌-◌, ◌≤◌}
use native.Mathlib.Omega.{arith}
use Rattle.bits.specs.Fields.{bits}
use Rattle.bits.specs.Complement.{signed}
use Rattle.bits.proofs.Machine.{whole, signed_low, signed_high}
use Rattle.bits.proofs.signed_field.Goals as goal

pub returns-then-digits-whole : goal.returns-then-digits-whole
returns-then-digits-whole g c =
    let small : c.min-width.result ≤ 16 = omega (arith, c.min-width.ensures) in
    signed_low c.min-width.result c.args.word _ small (whole c.min-width.result small) (omega arith)
    ∙ ap (λ (n : ℕ). signed n (bits (30 - n) 29 c.args.word)) c.min-width.ensures

pub returns-else-digits-whole : goal.returns-else-digits-whole
returns-else-digits-whole g c =
    let small : c.min-width.result ≤ 16 = omega (arith, c.min-width.ensures) in
    signed_high c.min-width.result c.args.word _ small (whole c.min-width.result small) (omega arith)
    ∙ ap (λ (n : ℕ). signed n (bits (30 - n) 29 c.args.word)) c.min-width.ensures
