-- What document 01 asks of a word of each kind beside its label, parity and zero bits, and the record that such a word holds.
-- Assumes nothing.
use Rattle.std.specs.Prelude.{Bool, true, ◌&&◌, ℕ, eqb, leb}
use Rattle.bits.specs.Fields.{bits}
use Rattle.bits.specs.Parity.{odd}
use Rattle.bits.specs.Complement.{signed}
use Rattle.statuses.specs.Statuses.{binary_status, decimal_status, decimal_listed}
use Rattle.codes.specs.Codes.{marker_of, marker_listed, category_of}
use Rattle.frequencies.specs.Frequencies.{tens_listed, frequency_in}
use Rattle.channels.specs.Channels.{legal_frequency}
use Rattle.frequencies.specs.declared.Band.{Band}
use Rattle.records.specs.declared.Body.{Body}
use Rattle.records.specs.declared.Kind.{Kind}
use Rattle.statuses.specs.declared.Status.{Status}

-- Four tests of a word: its decimal digits (refusal 5), its codes (4), its value (6) and its angle's parity (7).
pub record Rules : Type 0 where
  pub digits : Bool
  pub codes : Bool
  pub value : Bool
  pub angle : Bool

-- no test, or one of them
abbrev none : Rules
none = record { digits = true; codes = true; value = true; angle = true }

abbrev codes_only : Bool → Rules
codes_only b = record { digits = true; codes = b; value = true; angle = true }

abbrev value_only : Bool → Rules
value_only b = record { digits = true; codes = true; value = b; angle = true }

abbrev angle_only : Bool → Rules
angle_only b = record { digits = true; codes = true; value = true; angle = b }

-- the status of a binary and of a decimal word
abbrev binary_in : ℕ → Status
binary_in w = binary_status (bits 30 31 w)

abbrev decimal_in : ℕ → Status
decimal_in w = decimal_status (bits 30 31 w)

-- a decimal word: digits up to 9, a status and a tens digit that have a code, and a frequency that is legal under the status
abbrev pub decimal : Band → ℕ → Rules
decimal b w = record {
  digits = leb (bits 15 18 w) 9 && (leb (bits 19 22 w) 9 && leb (bits 23 26 w) 9);
  codes = decimal_listed (bits 30 31 w) && tens_listed b (bits 27 29 w);
  value = legal_frequency b (decimal_in w) (frequency_in b w);
  angle = true;
}

abbrev pub rules : Kind → ℕ → Rules
rules Kind.VorAzimuth w = codes_only (marker_listed (bits 11 13 w))
rules Kind.VorFrequency w = decimal Band.Vor w
rules Kind.IlsCourse w = none
rules Kind.IlsGlide w = none
rules Kind.IlsFrequency w = decimal Band.Ils w
rules Kind.MlsFrequency w = decimal Band.Mls w
rules Kind.MlsAzimuthDeviation w = none
rules Kind.MlsGlideDeviation w = none
rules Kind.SelectedAzimuth w = value_only (leb (bits 20 28 w) 359)
rules Kind.GreatestGlideAngle w = angle_only (odd (bits 20 28 w))
rules Kind.SelectedGlideAngle w = none
-- bits 31, 30 of a part are no status: they read 00, 01, 10, 11 for parts 1 to 4
rules Kind.Part1 w = codes_only (eqb (bits 30 31 w) 0)
rules Kind.Part2 w = codes_only (eqb (bits 30 31 w) 1)
rules Kind.Part3 w = codes_only (eqb (bits 30 31 w) 2)
rules Kind.Part4 w = codes_only (eqb (bits 30 31 w) 3)

-- bit k is one
abbrev flag : ℕ → ℕ → Bool
flag k w = eqb (bits k k w) 1

-- what a word of each kind holds
abbrev pub body_of : Kind → ℕ → Body
body_of Kind.VorAzimuth w = Body.VorAzimuth (binary_in w) (marker_of (bits 11 13 w)) (record { 0 = signed 13 (bits 17 29 w) })
body_of Kind.VorFrequency w = Body.VorFrequency (decimal_in w) (frequency_in Band.Vor w)
body_of Kind.IlsCourse w = Body.IlsCourse (binary_in w) (flag 11 w) (record { 0 = signed 13 (bits 17 29 w) })
body_of Kind.IlsGlide w = Body.IlsGlide (binary_in w) (flag 11 w) (record { 0 = signed 13 (bits 17 29 w) })
body_of Kind.IlsFrequency w = Body.IlsFrequency (decimal_in w) (category_of (bits 11 12 w)) (frequency_in Band.Ils w)
body_of Kind.MlsFrequency w = Body.MlsFrequency (decimal_in w) (frequency_in Band.Mls w)
body_of Kind.MlsAzimuthDeviation w = Body.MlsAzimuthDeviation (binary_in w) (flag 11 w) (flag 12 w) (record { 0 = signed 16 (bits 14 29 w) })
body_of Kind.MlsGlideDeviation w = Body.MlsGlideDeviation (binary_in w) (flag 11 w) (flag 12 w) (record { 0 = signed 16 (bits 14 29 w) })
body_of Kind.SelectedAzimuth w = Body.SelectedAzimuth (binary_in w) (flag 19 w) (bits 20 28 w)
body_of Kind.GreatestGlideAngle w = Body.GreatestGlideAngle (binary_in w) (bits 20 27 w)
body_of Kind.SelectedGlideAngle w = Body.SelectedGlideAngle (binary_in w) (flag 19 w) (bits 20 28 w)
body_of Kind.Part1 w = Body.Part1 (bits 14 21 w) (bits 22 29 w)
body_of Kind.Part2 w = Body.Part2 (bits 14 29 w)
body_of Kind.Part3 w = Body.Part3 (bits 14 29 w)
body_of Kind.Part4 w = Body.Part4 (flag 11 w) (bits 14 29 w)
