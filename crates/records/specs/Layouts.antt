-- Document 01's table of layouts: the fields and the zero bits of each kind of word.
-- Assumes nothing.
use Rattle.std.specs.Prelude.{List, [], ◌∷◌, ◌++◌}
use Rattle.bits.specs.Layout.{Segment, field, zeros}
use Rattle.records.specs.declared.Kind.{Kind}
use Rattle.records.specs.declared.Kind.TheVariants.{VorAzimuth, VorFrequency, IlsCourse, IlsGlide, IlsFrequency, MlsFrequency, MlsAzimuthDeviation, MlsGlideDeviation, SelectedAzimuth, GreatestGlideAngle, SelectedGlideAngle, Part1, Part2, Part3, Part4}

-- hundredths, tenths, units and tens
abbrev decimal : List Segment
decimal = field 15 18 ∷ field 19 22 ∷ field 23 26 ∷ field 27 29 ∷ []

-- bits 11 to 29
abbrev pub layout : Kind → List Segment
layout VorAzimuth = field 11 13 ∷ zeros 14 16 ∷ field 17 29 ∷ []
layout VorFrequency = zeros 11 14 ∷ decimal
layout IlsCourse = field 11 11 ∷ zeros 12 16 ∷ field 17 29 ∷ []
layout IlsGlide = field 11 11 ∷ zeros 12 16 ∷ field 17 29 ∷ []
layout IlsFrequency = field 11 12 ∷ zeros 13 14 ∷ decimal
layout MlsFrequency = zeros 11 14 ∷ decimal
layout MlsAzimuthDeviation = field 11 11 ∷ field 12 12 ∷ zeros 13 13 ∷ field 14 29 ∷ []
layout MlsGlideDeviation = field 11 11 ∷ field 12 12 ∷ zeros 13 13 ∷ field 14 29 ∷ []
layout SelectedAzimuth = zeros 11 18 ∷ field 19 19 ∷ field 20 28 ∷ zeros 29 29 ∷ []
-- the tenths in bits 20 to 27 and their parity in bit 28
layout GreatestGlideAngle = zeros 11 19 ∷ field 20 28 ∷ zeros 29 29 ∷ []
layout SelectedGlideAngle = zeros 11 18 ∷ field 19 19 ∷ field 20 28 ∷ zeros 29 29 ∷ []
layout Part1 = zeros 11 13 ∷ field 14 21 ∷ field 22 29 ∷ []
layout Part2 = zeros 11 13 ∷ field 14 29 ∷ []
layout Part3 = zeros 11 13 ∷ field 14 29 ∷ []
layout Part4 = field 11 11 ∷ zeros 12 13 ∷ field 14 29 ∷ []

-- bits 11 to 31: the kind's own, and the status
abbrev pub upper_layout : Kind → List Segment
upper_layout k = layout k ++ (field 30 31 ∷ [])

-- bits 1 to 31: the label and the source before them
abbrev pub lower_layout : Kind → List Segment
lower_layout k = field 1 8 ∷ field 9 10 ∷ upper_layout k

-- the whole word: bit 32 is the parity
abbrev pub word_layout : Kind → List Segment
word_layout k = lower_layout k ++ (field 32 32 ∷ [])
