-- "The fifteen labels stand in one table with their zero bits": document 01's table, row by row, and that the layouts, the labels and the masks in
-- use are those of its rows.
-- Assumes nothing.
use Rattle.std.specs.Prelude.{◌≡◌, refl, map}
use Rattle.records.specs.All.{kinds}
use Rattle.labels.specs.Table.{row_of}
use Rattle.demands.specs.Table.{table, used, written}

-- The fifteen rows in use are the table's.
pub in_use : map used kinds ≡ map (λ k. written (table k)) kinds
unfolding row_of
in_use = refl
