-- What makes the definitions of `SummaryTexts` believable: the least and the greatest count are printed as values of the quantity that the deviation is.
-- Assumes nothing.
use Rattle.std.specs.Prelude.{◌≡◌, refl, ℤ, Some}
use Rattle.summaries.specs.Summaries.{range_of, quantity_for}
use Rattle.summaries.specs.declared.Deviation.{Deviation}
use Rattle.summary_texts.specs.SummaryTexts.{extremes_line, range_line}

-- The values are those of the deviation's own quantity.
pub range_printed : (d : Deviation) (least greatest : ℤ) → range_line (range_of d (Some (least, greatest))) ≡ extremes_line (quantity_for d) least greatest
range_printed Deviation.Course least greatest = refl
range_printed Deviation.Glide least greatest = refl
range_printed Deviation.MlsAzimuth least greatest = refl
range_printed Deviation.MlsGlide least greatest = refl
