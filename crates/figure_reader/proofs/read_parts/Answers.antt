-- The tests of the lengths and of the digits are those of the definition; whole digits past the greatest number are too large with any decimals.
use mathlib.Core.Path.{sym, ap, ◌∙◌}
use Prim.Native.Nat.{ℕ, ◌+◌, ◌*◌}
use native.Mathlib.Nat.{mul-le-mul}
use native.Mathlib.Omega.{arith}
use lib.ListN.{length}
use Rattle.signed_numbers.specs.Signed.{signed_of}
use Rattle.figure_reader.proofs.Reading.{digits_within, weight_small, lengths_unread, whole_unread, decimals_unread, digits-taken}
use Rattle.figure_reader.proofs.read_parts.Goals as goal

pub returns-then-decimals-whole : goal.returns-then-decimals-whole
returns-then-decimals-whole c =
    let a = c.args in
    lengths_unread a.negative a.whole.now a.decimals.now c.if-decimals-whole.true

pub returns-in_err-units : goal.returns-in_err-units
returns-in_err-units c =
    let a = c.args in
    c.from_residual.ensures
    ∙ whole_unread a.negative a.whole.now a.decimals.now c.if-decimals-whole.false (sym c.in_err-units.was ∙ c.digits_of.ensures)

pub returns-in_err-rest : goal.returns-in_err-rest
returns-in_err-rest c =
    let a = c.args in
    c.from_residual-in_err-rest.ensures
    ∙ decimals_unread a.negative a.whole.now a.decimals.now c.if-decimals-whole.false (sym c.in_err-rest.was ∙ c.digits_of-2.ensures)

pub overflow_add-size : goal.overflow_add-size
overflow_add-size c =
    let a = c.args in
    let units = digits_within 9223372036854 a.whole.now c.in_ok-units.units (sym c.in_ok-units.was ∙ c.digits_of.ensures) in
    let rest = digits_within 999999 a.decimals.now c.in_ok-rest.rest (sym c.in_ok-rest.was ∙ c.digits_of-2.ensures) in
    omega
    (arith, units, mul-le-mul rest (weight_small (length a.decimals.now) c.last_weight.result c.last_weight.ensures))

pub returns : goal.returns
returns c =
    let a = c.args in
    c.with_sign.ensures
    ∙ ap (λ (p : ℕ). signed_of a.negative (c.in_ok-units.units * 1000000 + c.in_ok-rest.rest * p)) c.last_weight.ensures
    ∙ digits-taken a.negative a.whole.now a.decimals.now c.if-decimals-whole.false c.in_ok-units.units c.in_ok-rest.rest
    (sym c.in_ok-units.was ∙ c.digits_of.ensures)
    (sym c.in_ok-rest.was ∙ c.digits_of-2.ensures)
