-- The zero bits of a layout are those of its row in the table.
-- Assumes nothing.
use Rattle.std.specs.Prelude.{◌≡◌, List, [], ◌∷◌, ◌↔◌, ℕ, suc, ◌+◌, ◌-◌}
use Rattle.std.proofs.Common.{sym, ap, ◌∙◌, arith}
use Rattle.bits.specs.Fields.{digits}
use Rattle.bits.specs.Layout.{Segment, part, gap, Clear}
use Rattle.demands.specs.Holds.{sum, number}
use Rattle.demands.specs.HoldsLemmas.{sum-digits}
use Rattle.demands.specs.Table.{Zeros, gaps}

gap-number : (p n w : ℕ) → number (p + 1) (p + n) w ≡ digits p n w
gap-number p n w =
    let width : (p + n) + 1 - (p + 1) ≡ n = omega arith in
    let place : p + 1 ≡ suc p = omega arith in
    ap (λ (m : ℕ). sum (p + 1) m w) width ∙ ap (λ (a : ℕ). sum a n w) place ∙ sum-digits p n w

pub clear-zeros : (l : List Segment) (w : ℕ) → Clear l w ↔ Zeros (gaps l) w
clear-zeros [] w = (λ z. z, λ z. z)
clear-zeros (part p n ∷ l) w = clear-zeros l w
clear-zeros (gap p n ∷ l) w =
    let rest = clear-zeros l w in
    let e = gap-number p n w in
    (λ z. (e ∙ z.0, rest.0 z.1), λ z. (sym e ∙ z.0, rest.1 z.1))
