-- What a record writes in its word: the values of its kind's fields in the layout's order, and bits 30 and 31.
-- Assumes nothing.
use Rattle.std.specs.Prelude.{List, [], ◌∷◌, ℕ, ◌/◌, ◌%◌}
use Rattle.bits.specs.Complement.{complement}
use Rattle.bits.specs.Parity.{with_parity}
use Rattle.statuses.specs.Statuses.{binary_code, decimal_code}
use Rattle.codes.specs.Codes.{marker_code, category_code, flag_bit}
use Rattle.frequencies.specs.Frequencies.{tens_code}
use Rattle.frequencies.specs.declared.Band.{Band}
use Rattle.records.specs.declared.Body.{Body}

-- hundredths, tenths and units of a MHz, and the code of the tens
abbrev pub decimal_digits : Band → ℕ → List ℕ
decimal_digits b f = f % 10 ∷ f / 10 % 10 ∷ f / 100 % 10 ∷ tens_code b (f / 1000 % 10) ∷ []

abbrev pub fields_of : Body → List ℕ
fields_of (Body.VorAzimuth status marker count) = marker_code marker ∷ complement 13 count.0 ∷ []
fields_of (Body.VorFrequency status frequency) = decimal_digits Band.Vor frequency
fields_of (Body.IlsCourse status inhibit count) = flag_bit inhibit ∷ complement 13 count.0 ∷ []
fields_of (Body.IlsGlide status inhibit count) = flag_bit inhibit ∷ complement 13 count.0 ∷ []
fields_of (Body.IlsFrequency status category frequency) = category_code category ∷ decimal_digits Band.Ils frequency
fields_of (Body.MlsFrequency status frequency) = decimal_digits Band.Mls frequency
fields_of (Body.MlsAzimuthDeviation status inhibit clearance count) = flag_bit inhibit ∷ flag_bit clearance ∷ complement 16 count.0 ∷ []
fields_of (Body.MlsGlideDeviation status inhibit clearance count) = flag_bit inhibit ∷ flag_bit clearance ∷ complement 16 count.0 ∷ []
fields_of (Body.SelectedAzimuth status manual degrees) = flag_bit manual ∷ degrees ∷ []
-- bit 28 makes the ones in bits 20 to 28 odd
fields_of (Body.GreatestGlideAngle status tenths) = with_parity 8 tenths ∷ []
fields_of (Body.SelectedGlideAngle status manual tenths) = flag_bit manual ∷ tenths ∷ []
fields_of (Body.Part1 number content) = number ∷ content ∷ []
fields_of (Body.Part2 content) = content ∷ []
fields_of (Body.Part3 content) = content ∷ []
fields_of (Body.Part4 good content) = flag_bit good ∷ content ∷ []

-- bits 30 and 31: the status, or the number of a part
abbrev pub status_bits : Body → ℕ
status_bits (Body.VorAzimuth status marker count) = binary_code status
status_bits (Body.VorFrequency status frequency) = decimal_code status
status_bits (Body.IlsCourse status inhibit count) = binary_code status
status_bits (Body.IlsGlide status inhibit count) = binary_code status
status_bits (Body.IlsFrequency status category frequency) = decimal_code status
status_bits (Body.MlsFrequency status frequency) = decimal_code status
status_bits (Body.MlsAzimuthDeviation status inhibit clearance count) = binary_code status
status_bits (Body.MlsGlideDeviation status inhibit clearance count) = binary_code status
status_bits (Body.SelectedAzimuth status manual degrees) = binary_code status
status_bits (Body.GreatestGlideAngle status tenths) = binary_code status
status_bits (Body.SelectedGlideAngle status manual tenths) = binary_code status
status_bits (Body.Part1 number content) = 0
status_bits (Body.Part2 content) = 1
status_bits (Body.Part3 content) = 2
status_bits (Body.Part4 good content) = 3
