-- Document 01's starred lines, words and figures, with request 3's in place of the MLS figures that it withdraws and with frequencies on and off
-- the raster of request 5, each with its record, its count or its refusal: one table, proved by one computed equation.
-- Assumes nothing.
use Rattle.std.specs.Prelude.{true, false, List, [], ◌∷◌, ℕ, ℤ, pos, neg_ℤ, Option, Some, None, Result, Ok, Err}
use Rattle.refusals.specs.Numbers.{number_of}
use Rattle.records.specs.declared.Body.{Body}
use Rattle.codes.specs.declared.Category.{Category}
use Rattle.codes.specs.declared.Marker.{Marker}
use Rattle.records.specs.declared.Record.{Record}
use Rattle.statuses.specs.declared.Status.{Status}
use Rattle.labels.proofs.Assignment.{document01}
use Rattle.decode.specs.Decode.{decode_of}
use Rattle.quantities.specs.declared.Quantity.{Quantity}
use Rattle.refusals.specs.declared.Refusal.{Refusal}
use Rattle.quantities.specs.Nearest.{millionths_of}
use Rattle.figures.specs.Coding.{coded_of}
use Rattle.agreements.specs.Agreement.{word_measurement}

-- What is asked: what a word holds, what figure is printed for its count, or how a figure in millionths is coded under a label and source 0.
pub data Asked : Type 0 where
  word : ℕ → Asked
  print : ℕ → Asked
  figure : ℕ → ℤ → Asked

-- What is answered: a record, the count in the coded word, a number of millionths, or the number of a refusal.
pub data Answer : Type 0 where
  holds : Record → Answer
  count : ℤ → Answer
  prints : ℤ → Answer
  refused : ℕ → Answer
  nothing : Answer

pub record Line : Type 0 where
  pub asked : Asked
  pub answer : Answer

abbrev ◌gives◌ : Asked → Answer → Line
◌gives◌ a b = record { asked = a; answer = b }

infix 30 ◌gives◌
-- a record of source 0
abbrev of : Body → Answer
of b = holds (record { source = 0; body = b })

abbrev pub starred : List Line
starred =
    -- 222, ready, +90 degrees; then -45
    (word 0xE8000049 gives of (Body.VorAzimuth Status.Ready Marker.None (record { 0 = pos 2048 })))
    ∷ (print 0xE8000049 gives prints (pos 90000000))
    ∷ (word 0xFC000049 gives of (Body.VorAzimuth Status.Ready Marker.None (record { 0 = neg_ℤ (pos 1024) })))
    ∷ (print 0xFC000049 gives prints (neg_ℤ (pos 45000000)))
    -- course +0.1; then count -1, which prints -0.000098
    ∷ (word 0x640000DE gives of (Body.IlsCourse Status.Ready false (record { 0 = pos 1024 })))
    ∷ (print 0x640000DE gives prints (pos 100000))
    ∷ (word 0x7FFF00DE gives of (Body.IlsCourse Status.Ready false (record { 0 = neg_ℤ (pos 1) })))
    ∷ (print 0x7FFF00DE gives prints (neg_ℤ (pos 98)))
    -- VOR 113.20 MHz, MLS 5090.70 MHz
    ∷ (word 0x04C80038 gives of (Body.VorFrequency Status.Ready 11320))
    ∷ (word 0x841C0078 gives of (Body.MlsFrequency Status.Ready 509070))
    -- selected azimuth, manual, 359 degrees; then 360
    ∷ (word 0xEB3C00D6 gives of (Body.SelectedAzimuth Status.Ready true 359))
    ∷ (word 0xEB4400D6 gives refused 6)
    -- greatest glide angle 4.0 degrees; then with a wrong bit 28
    ∷ (word 0x69400036 gives of (Body.GreatestGlideAngle Status.Ready 40))
    ∷ (word 0xE1400036 gives refused 7)
    -- the first word with bit 1 lost
    ∷ (word 0xE8000048 gives refused 1)
    -- request 5: VOR 178.33 under ready, test and nodata, and under bits 30, 31 = 11, where 4 comes first
    ∷ (word 0x1E0CC038 gives refused 6)
    ∷ (word 0xDE0CC038 gives refused 6)
    ∷ (word 0xBE0CC038 gives of (Body.VorFrequency Status.NoData 17833))
    ∷ (word 0x7E0CC038 gives refused 4)
    -- 108.10 is of ILS and not of VOR, 112.00 of VOR; ILS 108.20 has an even digit of tenths
    ∷ (word 0x02040038 gives refused 6)
    ∷ (word 0x820400D8 gives of (Body.IlsFrequency Status.Ready Category.NotStated 10810))
    ∷ (word 0x04800038 gives of (Body.VorFrequency Status.Ready 11200))
    ∷ (word 0x820800D8 gives refused 6)
    -- request 3, in place of the MLS lines that it withdraws: 2399963378 is coded, 2399963379 refused; -2400036621 is coded, -2400036622 refused;
    -- and 36600 and 109800, the ties of the step in print, now lie nearer to 0 and to 1
    ∷ (figure 0o151 (pos 36600) gives count (pos 0))
    ∷ (figure 0o151 (pos 109800) gives count (pos 1))
    ∷ (figure 0o151 (pos 2399963378) gives count (pos 32767))
    ∷ (figure 0o151 (pos 2399963379) gives refused 8)
    ∷ (figure 0o151 (neg_ℤ (pos 2400036621)) gives count (neg_ℤ (pos 32768)))
    ∷ (figure 0o151 (neg_ℤ (pos 2400036622)) gives refused 8)
    ∷ (figure 0o152 (pos 36600) gives count (pos 0))
    ∷ (figure 0o152 (pos 109800) gives count (pos 1))
    ∷ (figure 0o152 (pos 2399963378) gives count (pos 32767))
    ∷ (figure 0o152 (pos 2399963379) gives refused 8)
    ∷ (figure 0o152 (neg_ℤ (pos 2400036621)) gives count (neg_ℤ (pos 32768)))
    ∷ (figure 0o152 (neg_ℤ (pos 2400036622)) gives refused 8)
    -- azimuth 179.98 and 180 give -4096; 315 gives -1024; 360 is refused 8
    ∷ (figure 0o222 (pos 179980000) gives count (neg_ℤ (pos 4096)))
    ∷ (figure 0o222 (pos 180000000) gives count (neg_ℤ (pos 4096)))
    ∷ (figure 0o222 (pos 315000000) gives count (neg_ℤ (pos 1024)))
    ∷ (figure 0o222 (pos 360000000) gives refused 8)
    ∷ []

abbrev decoded : Result Record Refusal → Answer
decoded (Ok r) = holds r
decoded (Err f) = refused (number_of f)

abbrev counted : Option (Quantity × ℤ) → Answer
counted (Some (q, c)) = count c
counted None = nothing

abbrev printed : Option (Quantity × ℤ) → Answer
printed (Some (q, c)) = prints (millionths_of q c)
printed None = nothing

abbrev coded : Result ℕ Refusal → Answer
coded (Ok w) = counted (word_measurement document01 w)
coded (Err f) = refused (number_of f)

-- what decoding, printing and coding give
abbrev pub answer_of : Asked → Answer
answer_of (word w) = decoded (decode_of w)
answer_of (print w) = printed (word_measurement document01 w)
answer_of (figure label f) = coded (coded_of label 0 f)
