-- "The fifteen labels stand in one table with their zero bits": document 01's table, row by row, and that the layouts, the labels and the masks in
-- use are those of its rows.
-- Assumes nothing.
use Rattle.std.specs.Prelude.{◌≡◌, refl, List, [], ◌∷◌, ◌++◌, ℕ, zero, suc, ◌+◌, ◌-◌, ◌^◌}
use Rattle.bits.specs.Layout.{Segment, part, gap}
use Rattle.records.specs.All.{agree}
use Rattle.records.specs.Layouts.{layout}
use Rattle.records.specs.declared.Kind.{Kind}
use Rattle.labels.proofs.Assignment.{document01}
use Rattle.labels.specs.Table.{row_of}
use Rattle.demands.specs.Holds.{number}

-- bits a to b
pub record Range : Type 0 where
  pub first : ℕ
  pub last : ℕ

abbrev ◌to◌ : ℕ → ℕ → Range
◌to◌ a b = record { first = a; last = b }

infix 70 ◌to◌
abbrev only : ℕ → Range
only a = a to a

pub record Row : Type 0 where
  pub label : ℕ
  pub fields : List Range
  pub zeros : List Range

abbrev row : ℕ → List Range → List Range → Row
row label fields zeros = record { label = label; fields = fields; zeros = zeros }

abbrev pub table : Kind → Row
-- marker; count
table Kind.VorAzimuth = row 0o222 (11 to 13 ∷ 17 to 29 ∷ []) (14 to 16 ∷ [])
-- digits
table Kind.VorFrequency = row 0o034 (15 to 29 ∷ []) (11 to 14 ∷ [])
-- test/retune inhibit; count
table Kind.IlsCourse = row 0o173 (only 11 ∷ 17 to 29 ∷ []) (12 to 16 ∷ [])
table Kind.IlsGlide = row 0o174 (only 11 ∷ 17 to 29 ∷ []) (12 to 16 ∷ [])
-- category; digits
table Kind.IlsFrequency = row 0o033 (11 to 12 ∷ 15 to 29 ∷ []) (13 to 14 ∷ [])
-- digits
table Kind.MlsFrequency = row 0o036 (15 to 29 ∷ []) (11 to 14 ∷ [])
-- retune inhibit; clearance; count
table Kind.MlsAzimuthDeviation = row 0o151 (only 11 ∷ only 12 ∷ 14 to 29 ∷ []) (only 13 ∷ [])
table Kind.MlsGlideDeviation = row 0o152 (only 11 ∷ only 12 ∷ 14 to 29 ∷ []) (only 13 ∷ [])
-- manual; degrees
table Kind.SelectedAzimuth = row 0o153 (only 19 ∷ 20 to 28 ∷ []) (11 to 18 ∷ only 29 ∷ [])
-- tenths; angle parity
table Kind.GreatestGlideAngle = row 0o154 (20 to 27 ∷ only 28 ∷ []) (11 to 19 ∷ only 29 ∷ [])
-- manual; tenths
table Kind.SelectedGlideAngle = row 0o155 (only 19 ∷ 20 to 28 ∷ []) (11 to 18 ∷ only 29 ∷ [])
-- word number; content
table Kind.Part1 = row 0o140 (14 to 21 ∷ 22 to 29 ∷ []) (11 to 13 ∷ [])
-- content
table Kind.Part2 = row 0o141 (14 to 29 ∷ []) (11 to 13 ∷ [])
table Kind.Part3 = row 0o142 (14 to 29 ∷ []) (11 to 13 ∷ [])
-- group parity good; content
table Kind.Part4 = row 0o143 (only 11 ∷ 14 to 29 ∷ []) (12 to 13 ∷ [])

-- these bits are zero
abbrev pub Zeros : List Range → ℕ → Type 0
Zeros [] w = Unit {0}
Zeros (r ∷ rs) w = (number r.first r.last w ≡ 0) × Zeros rs w

-- the zero bits of a kind are zero in w
abbrev pub ZeroBits : Kind → ℕ → Type 0
ZeroBits k w = Zeros (table k).zeros w

-- ---- what is in use

-- n bits from bit a on, one by one
abbrev each : ℕ → ℕ → List ℕ
each a zero = []
each a (suc n) = a ∷ each (suc a) n

abbrev listed : List Range → List ℕ
listed [] = []
listed (r ∷ rs) = each r.first (r.last + 1 - r.first) ++ listed rs

-- the number that has ones just at these bits
abbrev ones : List ℕ → ℕ
ones [] = 0
ones (k ∷ ks) = 2 ^ (k - 1) + ones ks

-- the bits of a layout that hold values, and its runs of zero bits
abbrev field_bits : List Segment → List ℕ
field_bits [] = []
field_bits (part p n ∷ l) = each (p + 1) n ++ field_bits l
field_bits (gap p n ∷ l) = field_bits l

abbrev pub gaps : List Segment → List Range
gaps [] = []
gaps (part p n ∷ l) = gaps l
gaps (gap p n ∷ l) = ((p + 1) to (p + n)) ∷ gaps l

-- a row in use: the label, the bits that hold values, the runs of zero bits, and the mask that tests them
pub record Used : Type 0 where
  pub label : ℕ
  pub fields : List ℕ
  pub zeros : List Range
  pub mask : ℕ

abbrev pub used : Kind → Used
used k = record { label = document01.label k; fields = field_bits (layout k); zeros = gaps (layout k); mask = (row_of k).zeros }

abbrev pub written : Row → Used
written r = record { label = r.label; fields = listed r.fields; zeros = r.zeros; mask = ones (listed r.zeros) }

-- So each kind has the label of its row.
pub labels : (k : Kind) → document01.label k ≡ (table k).label
labels = agree (λ k. document01.label k) (λ k. (table k).label) refl
