-- Agreement: a figure agrees with a word when it is coded, under that word's label and source, to the word's count. With a refused or
-- unmeasured word none agrees. Stated over any assignment of labels.
-- Assumes nothing.
use Rattle.std.specs.Prelude.{Bool, false, ℕ, eqb, ℤ, pos, negsuc, Option, Some, None, Result, Ok, Err}
use Rattle.bits.specs.Fields.{bits}
use Rattle.labels.specs.Assignment.{Assignment}
use Rattle.labels.proofs.Assignment.{document01}
use Rattle.labels.specs.Label.{label_of}
use Rattle.decode.specs.Decode.{decode_with}
use Rattle.quantities.specs.declared.Quantity.{Quantity}
use Rattle.records.specs.declared.Record.{Record}
use Rattle.refusals.specs.declared.Refusal.{Refusal}
use Rattle.quantities.specs.Nearest.{nearest_count}
use Rattle.measurements.specs.Measurements.{measurement_of}
use Rattle.figures.specs.Coding.{coded_with}

-- the quantity and the count that a word holds, by what it is decoded to
abbrev pub decoded_measurement : Result Record Refusal → Option (Quantity × ℤ)
decoded_measurement (Ok r) = measurement_of r.body
decoded_measurement (Err f) = None

abbrev pub word_measurement : Assignment → ℕ → Option (Quantity × ℤ)
word_measurement a w = decoded_measurement (decode_with a w)

-- and those of the word that coding gave
abbrev pub coded_measurement : Assignment → Result ℕ Refusal → Option (Quantity × ℤ)
coded_measurement a (Ok w) = word_measurement a w
coded_measurement a (Err f) = None

-- whether two signed numbers are equal
abbrev pub equal : ℤ → ℤ → Bool
equal (pos m) (pos n) = eqb m n
equal (pos m) (negsuc n) = false
equal (negsuc m) (pos n) = false
equal (negsuc m) (negsuc n) = eqb m n

abbrev pub same_count : Option (Quantity × ℤ) → Option (Quantity × ℤ) → Bool
same_count (Some (q, c)) (Some (p, d)) = equal c d
same_count (Some (q, c)) None = false
same_count None n = false

-- a figure in millionths agrees with a word
abbrev pub agrees_with : Assignment → ℕ → ℤ → Bool
agrees_with a w figure = same_count (word_measurement a w) (coded_measurement a (coded_with a (label_of w) (bits 9 10 w) figure))

-- under document 01's labels
abbrev pub agrees_of : ℕ → ℤ → Bool
agrees_of w figure = agrees_with document01 w figure

-- ---- how the code finds it: the word's count is the one nearest to the figure. `Agreeing` says that this is the same.

abbrev pub is_nearest : Option ℤ → ℤ → Bool
is_nearest (Some d) c = equal c d
is_nearest None c = false

abbrev pub holds_nearest : Option (Quantity × ℤ) → ℤ → Bool
holds_nearest (Some (q, c)) figure = is_nearest (nearest_count q figure) c
holds_nearest None figure = false
