-- What makes the line believable: the text of a figure is that of a signed number, and parts show their bits 14 to 29.
-- Assumes nothing.
use Rattle.std.specs.Prelude.{◌≡◌, refl, ℕ, ℤ, pos, negsuc, Some}
use Rattle.std.proofs.Common.{ap, arith}
use Rattle.bits.specs.Fields.{bits}
use Rattle.records.specs.declared.Kind.{Kind}
use Rattle.decode.specs.Rules.{body_of}
use Rattle.numerals.specs.Digits.{signed_fixed}
use Rattle.columns.specs.Columns.{signed_figure, part_columns, columns_of}
use Rattle.word_lines.specs.WordLines.{figure_text}

-- ---- the text of a figure with a sign

pub signed_text : (places : ℕ) (z : ℤ) → figure_text (Some (signed_figure places z)) ≡ signed_fixed places z
signed_text places (pos n) = refl
signed_text places (negsuc n) = refl

-- ---- parts show bits 14 to 29

pub part1_shows : (w : ℕ) → columns_of (body_of Kind.Part1 w) ≡ part_columns 1 (bits 14 29 w)
part1_shows w = ap (part_columns 1) (omega arith)

pub part2_shows : (w : ℕ) → columns_of (body_of Kind.Part2 w) ≡ part_columns 2 (bits 14 29 w)
part2_shows w = refl

pub part3_shows : (w : ℕ) → columns_of (body_of Kind.Part3 w) ≡ part_columns 3 (bits 14 29 w)
part3_shows w = refl

pub part4_shows : (w : ℕ) → columns_of (body_of Kind.Part4 w) ≡ part_columns 4 (bits 14 29 w)
part4_shows w = refl
