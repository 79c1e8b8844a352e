-- Demand 3 is met.
-- Assumes nothing.
use Rattle.std.specs.Prelude.{◌≡◌, refl, ℤ, Option}
use Rattle.std.proofs.Common.{ap, ◌∙◌}
use Rattle.labels.specs.Assignment.{Assignment}
use Rattle.labels.proofs.Assignment.{document01}
use Rattle.quantities.specs.Nearest.{millionths_of}
use Rattle.quantities.specs.Theorems as Quantities
use Rattle.quantities.proofs.Theorems as QuantitiesProofs
use Rattle.quantities.specs.declared.Quantity.{Quantity}
use Rattle.figures.specs.Coding.{label_for, coded_measured, coded_with, coded_of}
use Rattle.figures.specs.Demand.{Order}
use Rattle.figures.specs.Words.{unmeasured, illegal_source, coded_under_lem}

module _ (a : Assignment) where
  -- and the refusals before 8
  pub order : Order a (coded_with a)
  order =
      record {
        label_first = λ label other source figure. ap (λ (m : Option Quantity). coded_measured m label source figure) (unmeasured a label other);
        source_second = λ q source s figure. coded_under_lem a q source figure ∙ illegal_source q (label_for a q) source figure s;
      }

pub order_of : Order document01 coded_of
order_of = order document01

-- both MLS deviations are printed alike
pub mls-alike : (c : ℤ) → millionths_of Quantity.MlsGlide c ≡ millionths_of Quantity.MlsAzimuth c
unfolding millionths_of
mls-alike c = refl
