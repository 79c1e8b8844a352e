-- The five measured quantities in demand 3's order: the label, the step in millionths as one whole number over another, and the legal counts.
-- Assumes nothing.
use Rattle.std.specs.Prelude.{◌≡◌, refl, List, [], ◌∷◌, map, ℕ}
use Rattle.records.specs.declared.Kind.{Kind}
use Rattle.labels.specs.Assignment.{Assignment}
use Rattle.labels.proofs.Assignment.{document01}
use Rattle.quantities.specs.Scale.{scale_of}
use Rattle.quantities.specs.declared.Quantity.{Quantity}
use Rattle.quantities.specs.declared.Quantity.TheVariants.{Azimuth, Course, Glide, MlsAzimuth, MlsGlide}
use Rattle.figures.specs.Coding.{label_for}

pub record Row : Type 0 where
  pub label : ℕ
  pub numerator : ℕ
  pub denominator : ℕ
  -- the least legal count is -below
  pub below : ℕ
  pub above : ℕ

abbrev row : ℕ → ℕ → ℕ → ℕ → ℕ → Row
row label numerator denominator below above =
    record { label = label; numerator = numerator; denominator = denominator; below = below; above = above }

-- 45/1024 degree; 1/10240 and 1/5120 of modulation depth difference; 75/1024 mV, twice
abbrev pub table : Assignment → List Row
table a =
    row (a.label Kind.VorAzimuth) 45000000 1024 4096 4095
    ∷ row (a.label Kind.IlsCourse) 1000000 10240 4096 4095
    ∷ row (a.label Kind.IlsGlide) 1000000 5120 4096 4095
    ∷ row (a.label Kind.MlsAzimuthDeviation) 75000000 1024 32768 32767
    ∷ row (a.label Kind.MlsGlideDeviation) 75000000 1024 32768 32767
    ∷ []

-- what is in use
abbrev row_of : Assignment → Quantity → Row
row_of a q = row (label_for a q) (scale_of q).numerator (scale_of q).denominator (scale_of q).below (scale_of q).above

abbrev pub rows : Assignment → List Row
rows a = map (row_of a) (Azimuth ∷ Course ∷ Glide ∷ MlsAzimuth ∷ MlsGlide ∷ [])

-- "In demand 3 the five quantities are 222, 173, 174, 151 and 152, in its order"
pub five_labels : map (λ r. r.label) (table document01) ≡ 0o222 ∷ 0o173 ∷ 0o174 ∷ 0o151 ∷ 0o152 ∷ []
five_labels = refl
