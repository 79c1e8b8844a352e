-- `quantities::wrapped` goes by the test of `wrap`; what is left of a turn past the last count of one sign is a count of the other.
use mathlib.Core.Path.{sym, ◌∙◌}
use mathlib.Core.Bool.{not}
use Prim.Native.Nat.{◌-◌, ◌%◌}
use native.Mathlib.Nat.{le_trans}
use native.Mathlib.Omega.{arith}
use Rattle.quantities.specs.Nearest.{turn_counts}
use Rattle.quantities.specs.Cases.{wrap_same, wrap_other}
use Rattle.quantities.specs.Sides.{rest_of_turn}
use Rattle.quantities.proofs.Products.{last_within}
use Rattle.quantities.proofs.Signed.{count-back}
use Rattle.quantities.proofs.wrapped.Goals as goal

pub returns-then-count-last : goal.returns-then-count-last
returns-then-count-last c =
    let a = c.args in
    count-back c.count_with_sign.result a.negative (a.size % turn_counts a.scale) (omega (arith, last_within a.scale c.requires a.negative, c.last_count-last.ensures, c.if-count-last.true)) c.count_with_sign.ensures
    ∙ sym (wrap_same a.scale a.negative a.size (rw c.last_count-last.ensures at c.if-count-last.true))

pub returns : goal.returns
returns c =
    let a = c.args in
    count-back c.count_with_sign-2.result (not a.negative) (turn_counts a.scale - a.size % turn_counts a.scale) (le_trans (rest_of_turn a.scale a.negative (a.size % turn_counts a.scale) (rw c.last_count-last.ensures at c.if-count-last.false)) (last_within a.scale c.requires (not a.negative))) c.count_with_sign-2.ensures
    ∙ sym (wrap_other a.scale a.negative a.size (rw c.last_count-last.ensures at c.if-count-last.false))
