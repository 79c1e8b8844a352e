-- The legal records, written out by field. Codes come first: writing refuses 4 for those, and 6 for every other field.
-- Assumes nothing.
use Rattle.std.specs.Prelude.{◌≢◌, ℕ, ◌≤◌, ℤ, pos, negsuc, ◌≤ℤ◌}
use Rattle.channels.specs.Raster.{IlsChannel, VorChannel, MlsChannel, Under}
use Rattle.records.specs.declared.Body.{Body}
use Rattle.records.specs.declared.Record.{Record}
use Rattle.statuses.specs.declared.Status.{Status}

-- a frequency has no failure status
abbrev pub CodesOf : Body → Type 0
CodesOf (Body.VorAzimuth status marker count) = Unit
CodesOf (Body.VorFrequency status frequency) = status ≢ Status.Failure
CodesOf (Body.IlsCourse status inhibit count) = Unit
CodesOf (Body.IlsGlide status inhibit count) = Unit
CodesOf (Body.IlsFrequency status category frequency) = status ≢ Status.Failure
CodesOf (Body.MlsFrequency status frequency) = status ≢ Status.Failure
CodesOf (Body.MlsAzimuthDeviation status inhibit clearance count) = Unit
CodesOf (Body.MlsGlideDeviation status inhibit clearance count) = Unit
CodesOf (Body.SelectedAzimuth status manual degrees) = Unit
CodesOf (Body.GreatestGlideAngle status tenths) = Unit
CodesOf (Body.SelectedGlideAngle status manual tenths) = Unit
CodesOf (Body.Part1 number content) = Unit
CodesOf (Body.Part2 content) = Unit
CodesOf (Body.Part3 content) = Unit
CodesOf (Body.Part4 good content) = Unit

-- a count of 13 bits is from -4096 to 4095, one of 16 bits from -32768 to 32767 (`negsuc n` is -n-1)
abbrev pub Count13 : ℤ → Type 0
Count13 z = (negsuc 4095 ≤ℤ z) × (z ≤ℤ pos 4095)

abbrev pub Count16 : ℤ → Type 0
Count16 z = (negsuc 32767 ≤ℤ z) × (z ≤ℤ pos 32767)

-- what the digits of a VOR or ILS word can say: 100.00 to 179.99 MHz in tens of kHz
abbrev pub Vhf : ℕ → Type 0
Vhf f = (10000 ≤ f) × (f ≤ 17999)

-- VOR and ILS frequencies are channels under ready and test, and under nodata whatever the digits can say; MLS frequencies are channels always
abbrev pub ValuesOf : Body → Type 0
ValuesOf (Body.VorAzimuth status marker count) = Count13 count.0
ValuesOf (Body.VorFrequency status frequency) = Under status (VorChannel frequency) (Vhf frequency)
ValuesOf (Body.IlsCourse status inhibit count) = Count13 count.0
ValuesOf (Body.IlsGlide status inhibit count) = Count13 count.0
ValuesOf (Body.IlsFrequency status category frequency) = Under status (IlsChannel frequency) (Vhf frequency)
ValuesOf (Body.MlsFrequency status frequency) = MlsChannel frequency
ValuesOf (Body.MlsAzimuthDeviation status inhibit clearance count) = Count16 count.0
ValuesOf (Body.MlsGlideDeviation status inhibit clearance count) = Count16 count.0
ValuesOf (Body.SelectedAzimuth status manual degrees) = degrees ≤ 359
ValuesOf (Body.GreatestGlideAngle status tenths) = tenths ≤ 255
ValuesOf (Body.SelectedGlideAngle status manual tenths) = tenths ≤ 511
ValuesOf (Body.Part1 number content) = (number ≤ 255) × (content ≤ 255)
ValuesOf (Body.Part2 content) = content ≤ 65535
ValuesOf (Body.Part3 content) = content ≤ 65535
ValuesOf (Body.Part4 good content) = content ≤ 65535

-- every code and the source are in their lists
abbrev pub LegalCodes : Record → Type 0
LegalCodes r = (r.source ≤ 3) × CodesOf r.body

-- every other field is legal
abbrev pub LegalValues : Record → Type 0
LegalValues r = ValuesOf r.body

abbrev pub Legal : Record → Type 0
Legal r = LegalCodes r × LegalValues r
