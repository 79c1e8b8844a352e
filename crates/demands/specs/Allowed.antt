-- The words that document 01 allows, with request 5's rule of frequencies: the layouts as a conjunction, with no order of tests.
-- Assumes nothing.
use Rattle.std.specs.Prelude.{◌≡◌, ℕ, ◌%◌, ◌≤◌}
use Rattle.std.specs.Int.Count.{ones}
use Rattle.channels.specs.Raster.{IlsChannel, VorChannel, MlsChannel, Under}
use Rattle.records.specs.declared.Kind.{Kind}
use Rattle.codes.specs.declared.Marker.{Marker}
use Rattle.statuses.specs.declared.Status.{Status}
use Rattle.labels.specs.Label.{label_of}
use Rattle.labels.specs.Assignment.{Assignment}
use Rattle.demands.specs.Table.{ZeroBits}
use Rattle.demands.specs.Holds.{bit, number, DecimalStatus, MarkerIs, VhfIs, SentAs, MlsIs}

-- What a layout asks of a word's fields: decimal digits (refusal 5), codes (4), the value (6) and the angle's parity (7).
pub record Asks : Type 1 where
  pub digits : Type 0
  pub codes : Type 0
  pub value : Type 0
  pub angle : Type 0

abbrev nothing : Asks
nothing = record { digits = Unit; codes = Unit; value = Unit; angle = Unit }

abbrev codes_are : Type 0 → Asks
codes_are t = record { digits = Unit; codes = t; value = Unit; angle = Unit }

-- hundredths, tenths and units of a MHz are decimal digits
abbrev pub DecimalDigits : ℕ → Type 0
DecimalDigits w = (number 15 18 w ≤ 9) × (number 19 22 w ≤ 9) × (number 23 26 w ≤ 9)

-- the frequency that w has by its digits is a channel
abbrev pub OnChannel : (ℕ → ℕ → Type 0) → (ℕ → Type 0) → ℕ → Type 0
OnChannel Has Channel w = (f : ℕ) × Has f w × Channel f

-- VOR and ILS frequencies: bits 30 and 31 are the code of some status; under ready and test the frequency is a channel, under nodata any digits do
abbrev vhf : (ℕ → Type 0) → ℕ → Asks
vhf Channel w = record {
  digits = DecimalDigits w;
  codes = (s : Status) × DecimalStatus s w;
  value = (s : Status) → DecimalStatus s w → Under s (OnChannel VhfIs Channel w) Unit;
  angle = Unit;
}

-- MLS frequencies: bits 27 to 29 are the code of some tens digit too, and under every status the frequency is a channel
abbrev mls : ℕ → Asks
mls w = record {
  digits = DecimalDigits w;
  codes = ((s : Status) × DecimalStatus s w) × ((tens : ℕ) × SentAs tens (number 27 29 w));
  value = OnChannel MlsIs MlsChannel w;
  angle = Unit;
}

abbrev pub asks : Kind → ℕ → Asks
asks Kind.VorAzimuth w = codes_are ((m : Marker) × MarkerIs m w)
asks Kind.VorFrequency w = vhf VorChannel w
asks Kind.IlsCourse w = nothing
asks Kind.IlsGlide w = nothing
asks Kind.IlsFrequency w = vhf IlsChannel w
asks Kind.MlsFrequency w = mls w
asks Kind.MlsAzimuthDeviation w = nothing
asks Kind.MlsGlideDeviation w = nothing
asks Kind.SelectedAzimuth w = record { digits = Unit; codes = Unit; value = number 20 28 w ≤ 359; angle = Unit }
asks Kind.GreatestGlideAngle w = record { digits = Unit; codes = Unit; value = Unit; angle = ones (number 20 28 w) % 2 ≡ 1 }
asks Kind.SelectedGlideAngle w = nothing
asks Kind.Part1 w = codes_are ((bit 31 w ≡ 0) × (bit 30 w ≡ 0))
asks Kind.Part2 w = codes_are ((bit 31 w ≡ 0) × (bit 30 w ≡ 1))
asks Kind.Part3 w = codes_are ((bit 31 w ≡ 1) × (bit 30 w ≡ 0))
asks Kind.Part4 w = codes_are ((bit 31 w ≡ 1) × (bit 30 w ≡ 1))

-- The word w is allowed: the count of its ones is odd, its label is that of some kind, and it has that kind's layout.
pub record Allowed (a : Assignment) (w : ℕ) : Type 0 where
  pub parity : ones w % 2 ≡ 1
  pub kind : Kind
  pub label : label_of w ≡ a.label kind
  pub zeros : ZeroBits kind w
  pub digits : (asks kind w).digits
  pub codes : (asks kind w).codes
  pub value : (asks kind w).value
  pub angle : (asks kind w).angle
