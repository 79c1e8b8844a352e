-- The zero bits of a layout are those of its row in the table.
-- Assumes nothing.
use Rattle.std.specs.Prelude.{◌≡◌, refl, List, ◌↔◌, ℕ}
use Rattle.std.proofs.Common.{subst}
use Rattle.bits.specs.Layout.{Clear}
use Rattle.records.specs.All.{agree}
use Rattle.records.specs.Layouts.{word_layout}
use Rattle.records.specs.declared.Kind.{Kind}
use Rattle.demands.specs.Table.{Range, table, Zeros, ZeroBits, gaps}
use Rattle.demands.specs.TableLemmas.{clear-zeros}

pub zero_bits : (k : Kind) (w : ℕ) → Clear (word_layout k) w ↔ ZeroBits k w
zero_bits k w =
    let same : gaps (word_layout k) ≡ (table k).zeros = agree (λ (j : Kind). gaps (word_layout j)) (λ j. (table j).zeros) refl k in
    subst (λ (rs : List Range). Clear (word_layout k) w ↔ Zeros rs w) same (clear-zeros (word_layout k) w)
