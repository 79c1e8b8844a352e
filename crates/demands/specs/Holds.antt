-- Which record a word holds, said of the word's own bits and apart from decoding: document 01's column "Fields" and its sentences on the label, the
-- source, statuses, markers, categories, counts and digits, one clause a kind.
-- Assumes nothing.
use Rattle.std.specs.Prelude.{◌≡◌, ◌⊎◌, Bool, true, false, List, [], ◌∷◌, ℕ, zero, suc, ◌+◌, ◌-◌, ◌*◌, ◌/◌, ◌%◌, ◌^◌, ◌≤◌, ℤ, pos, ◌-ℤ◌}
use Rattle.codes.specs.declared.Category.{Category}
use Rattle.codes.specs.declared.Marker.{Marker}
use Rattle.statuses.specs.declared.Status.{Status}
use Rattle.records.specs.Kinds.{kind_of}
use Rattle.records.specs.declared.Body.{Body}
use Rattle.records.specs.declared.Kind.{Kind}
use Rattle.records.specs.declared.Record.{Record}
use Rattle.labels.specs.Assignment.{Assignment}

-- "Bit k weighs 2^(k-1) in the 32-bit number."
abbrev pub bit : ℕ → ℕ → ℕ
bit k w = w / 2 ^ (k - 1) % 2

-- the bits from bit k on are these, bit k first
abbrev pub Bits : ℕ → List ℕ → ℕ → Type 0
Bits k [] w = Unit {0}
Bits k (b ∷ bs) w = (bit k w ≡ b) × Bits (suc k) bs w

-- n bits from bit a on as a number: bit a weighs 1, the next 2, ..
abbrev pub sum : ℕ → ℕ → ℕ → ℕ
sum a zero w = 0
sum a (suc n) w = sum a n w + bit (a + n) w * 2 ^ n

-- bits a to b as a number
abbrev pub number : ℕ → ℕ → ℕ → ℕ
number a b w = sum a (b + 1 - a) w

-- "Counts are two's complement with bit 29 as sign": bits a to b, where bit b weighs as much below zero
abbrev pub signed : ℕ → ℕ → ℕ → ℤ
signed a b w = pos (number a (b - 1) w) -ℤ pos (bit b w * 2 ^ (b - a))

-- "Status of binary words (bits 30, 31): 00 failure, 10 nodata, 01 test, 11 ready."
abbrev pub BinaryStatus : Status → ℕ → Type 0
BinaryStatus Status.Failure w = Bits 30 (0 ∷ 0 ∷ []) w
BinaryStatus Status.NoData w = Bits 30 (1 ∷ 0 ∷ []) w
BinaryStatus Status.Test w = Bits 30 (0 ∷ 1 ∷ []) w
BinaryStatus Status.Ready w = Bits 30 (1 ∷ 1 ∷ []) w

-- "Status of decimal words: 00 ready, 10 nodata, 01 test; 11, ready with a minus, no frequency can have." Nor is there a failure.
abbrev pub DecimalStatus : Status → ℕ → Type 0
DecimalStatus Status.Failure w = ⊥
DecimalStatus Status.NoData w = Bits 30 (1 ∷ 0 ∷ []) w
DecimalStatus Status.Test w = Bits 30 (0 ∷ 1 ∷ []) w
DecimalStatus Status.Ready w = Bits 30 (0 ∷ 0 ∷ []) w

-- "Markers (bits 11, 12, 13): 000 none, 100 outer, 010 middle, 001 inner; nothing else."
abbrev pub MarkerIs : Marker → ℕ → Type 0
MarkerIs Marker.None w = Bits 11 (0 ∷ 0 ∷ 0 ∷ []) w
MarkerIs Marker.Outer w = Bits 11 (1 ∷ 0 ∷ 0 ∷ []) w
MarkerIs Marker.Middle w = Bits 11 (0 ∷ 1 ∷ 0 ∷ []) w
MarkerIs Marker.Inner w = Bits 11 (0 ∷ 0 ∷ 1 ∷ []) w

-- "Category (bits 11, 12): 10 I, 01 II, 11 III. 00 .. we take it as not stated."
abbrev pub CategoryIs : Category → ℕ → Type 0
CategoryIs Category.NotStated w = Bits 11 (0 ∷ 0 ∷ []) w
CategoryIs Category.I w = Bits 11 (1 ∷ 0 ∷ []) w
CategoryIs Category.II w = Bits 11 (0 ∷ 1 ∷ []) w
CategoryIs Category.III w = Bits 11 (1 ∷ 1 ∷ []) w

-- bit k is a flag: one where it is set
abbrev pub Flag : ℕ → Bool → ℕ → Type 0
Flag k false w = bit k w ≡ 0
Flag k true w = bit k w ≡ 1

-- "Frequency digits: hundredths 15-18, tenths 19-22, units 23-26": in hundredths of a MHz, which are tens of kHz
abbrev pub below_tens : ℕ → ℕ
below_tens w = 100 * number 23 26 w + 10 * number 19 22 w + number 15 18 w

-- "tens 27-29. VOR and ILS add 100 MHz"
abbrev pub VhfIs : ℕ → ℕ → Type 0
VhfIs f w = f ≡ 10000 + 1000 * number 27 29 w + below_tens w

-- "MLS tens 8 and 9 are sent as 0 and 1, 3 to 7 as themselves; 2 is no code."
abbrev pub SentAs : ℕ → ℕ → Type 0
SentAs tens code = ((tens ≡ 8) × (code ≡ 0)) ⊎ (((tens ≡ 9) × (code ≡ 1)) ⊎ ((3 ≤ tens) × (tens ≤ 7) × (code ≡ tens)))

-- ".. MLS 5000 MHz"
abbrev pub MlsIs : ℕ → ℕ → Type 0
MlsIs f w = (tens : ℕ) × SentAs tens (number 27 29 w) × (f ≡ 500000 + 1000 * tens + below_tens w)

-- The column "Fields", with the status. "In 140 to 143 bits 31, 30 are no status: they read 00, 01, 10, 11 for parts 1 to 4."
abbrev pub HoldsBody : Body → ℕ → Type 0
HoldsBody (Body.VorAzimuth status marker count) w = BinaryStatus status w × MarkerIs marker w × (count.0 ≡ signed 17 29 w)
HoldsBody (Body.VorFrequency status frequency) w = DecimalStatus status w × VhfIs frequency w
HoldsBody (Body.IlsCourse status inhibit count) w = BinaryStatus status w × Flag 11 inhibit w × (count.0 ≡ signed 17 29 w)
HoldsBody (Body.IlsGlide status inhibit count) w = BinaryStatus status w × Flag 11 inhibit w × (count.0 ≡ signed 17 29 w)
HoldsBody (Body.IlsFrequency status category frequency) w = DecimalStatus status w × CategoryIs category w × VhfIs frequency w
HoldsBody (Body.MlsFrequency status frequency) w = DecimalStatus status w × MlsIs frequency w
HoldsBody (Body.MlsAzimuthDeviation status inhibit clearance count) w = BinaryStatus status w × Flag 11 inhibit w × Flag 12 clearance w × (count.0 ≡ signed 14 29 w)
HoldsBody (Body.MlsGlideDeviation status inhibit clearance count) w = BinaryStatus status w × Flag 11 inhibit w × Flag 12 clearance w × (count.0 ≡ signed 14 29 w)
HoldsBody (Body.SelectedAzimuth status manual degrees) w = BinaryStatus status w × Flag 19 manual w × (degrees ≡ number 20 28 w)
HoldsBody (Body.GreatestGlideAngle status tenths) w = BinaryStatus status w × (tenths ≡ number 20 27 w)
HoldsBody (Body.SelectedGlideAngle status manual tenths) w = BinaryStatus status w × Flag 19 manual w × (tenths ≡ number 20 28 w)
HoldsBody (Body.Part1 word content) w = (bit 31 w ≡ 0) × (bit 30 w ≡ 0) × (word ≡ number 14 21 w) × (content ≡ number 22 29 w)
HoldsBody (Body.Part2 content) w = (bit 31 w ≡ 0) × (bit 30 w ≡ 1) × (content ≡ number 14 29 w)
HoldsBody (Body.Part3 content) w = (bit 31 w ≡ 1) × (bit 30 w ≡ 0) × (content ≡ number 14 29 w)
HoldsBody (Body.Part4 good content) w = (bit 31 w ≡ 1) × (bit 30 w ≡ 1) × Flag 11 good w × (content ≡ number 14 29 w)

-- The word w holds the record r, under an assignment of labels.
pub record Holds (a : Assignment) (w : ℕ) (r : Record) : Type 0 where
  -- "Bits 1 to 8 are the label, bit 1 its HIGHEST binary digit"
  pub label : a.label (kind_of r.body) ≡ 128 * bit 1 w + 64 * bit 2 w + 32 * bit 3 w + 16 * bit 4 w + 8 * bit 5 w + 4 * bit 6 w + 2 * bit 7 w + bit 8 w
  -- "Source number = bit 9 + 2 x bit 10"
  pub source : r.source ≡ bit 9 w + 2 * bit 10 w
  pub body : HoldsBody r.body w

-- Words of each kind have a binary status, a decimal one, or none.
abbrev pub StatusIs : Kind → Status → ℕ → Type 0
StatusIs Kind.VorAzimuth s w = BinaryStatus s w
StatusIs Kind.VorFrequency s w = DecimalStatus s w
StatusIs Kind.IlsCourse s w = BinaryStatus s w
StatusIs Kind.IlsGlide s w = BinaryStatus s w
StatusIs Kind.IlsFrequency s w = DecimalStatus s w
StatusIs Kind.MlsFrequency s w = DecimalStatus s w
StatusIs Kind.MlsAzimuthDeviation s w = BinaryStatus s w
StatusIs Kind.MlsGlideDeviation s w = BinaryStatus s w
StatusIs Kind.SelectedAzimuth s w = BinaryStatus s w
StatusIs Kind.GreatestGlideAngle s w = BinaryStatus s w
StatusIs Kind.SelectedGlideAngle s w = BinaryStatus s w
StatusIs Kind.Part1 s w = ⊥
StatusIs Kind.Part2 s w = ⊥
StatusIs Kind.Part3 s w = ⊥
StatusIs Kind.Part4 s w = ⊥
