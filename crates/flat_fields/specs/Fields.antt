-- The record that numbers stand for, or their refusal: 2 for no kind, 4 for a code or a source outside its list, 6 for a flag above 1 or a value
-- that the record cannot hold. What the kind has no field for is not looked at.
-- Assumes nothing.
use Rattle.std.specs.Prelude.{◌≡◌, Bool, true, false, cond, ◌&&◌, List, [], ◌∷◌, ℕ, ◌+◌, ◌%◌, eqb, leb, Option, Some, None, Result, Ok, Err}
use Rattle.statuses.specs.Statuses.{binary_status}
use Rattle.codes.specs.Codes.{marker_of, marker_listed, category_of}
use Rattle.records.specs.declared.Body.{Body}
use Rattle.records.specs.declared.Kind.{Kind}
use Rattle.records.specs.declared.Record.{Record}
use Rattle.refusals.specs.declared.Refusal.{Refusal}
use Rattle.statuses.specs.declared.Status.{Status}
use Rattle.records.specs.All.{kinds}
use Rattle.flat_records.specs.Numbers.{numbers}
use Rattle.flat_records.specs.declared.FlatRecord.{FlatRecord}

-- the status of a number from 1 to 4: one more than its code in a binary word
abbrev pub status_of : ℕ → Status
status_of n = binary_status ((n + 3) % 4)

-- a flag is on where its number is 1
abbrev pub flag_of : ℕ → Bool
flag_of n = eqb n 1

-- the kind at a place of document 01's table
abbrev pub kind_in : List Kind → ℕ → ℕ → Option Kind
kind_in [] place n = None
kind_in (k ∷ ks) place n = cond (eqb n place) (Some k) (kind_in ks (place + 1) n)

-- counted from 1
abbrev pub kind_at : ℕ → Option Kind
kind_at n = kind_in kinds 1 n

-- the number of a status
abbrev pub status_listed : ℕ → Bool
status_listed n = leb 1 n && leb n 4

-- what a flag, 8 bits and 16 bits can be
abbrev pub is_flag : ℕ → Bool
is_flag n = leb n 1

abbrev pub is_octet : ℕ → Bool
is_octet n = leb n 255

abbrev pub is_short : ℕ → Bool
is_short n = leb n 65535

-- every code that the kind has is in its list
abbrev pub listed : Kind → FlatRecord → Bool
listed Kind.VorAzimuth f = status_listed f.status && marker_listed f.marker
listed Kind.VorFrequency f = status_listed f.status
listed Kind.IlsCourse f = status_listed f.status
listed Kind.IlsGlide f = status_listed f.status
listed Kind.IlsFrequency f = status_listed f.status && leb f.category 3
listed Kind.MlsFrequency f = status_listed f.status
listed Kind.MlsAzimuthDeviation f = status_listed f.status
listed Kind.MlsGlideDeviation f = status_listed f.status
listed Kind.SelectedAzimuth f = status_listed f.status
listed Kind.GreatestGlideAngle f = status_listed f.status
listed Kind.SelectedGlideAngle f = status_listed f.status
listed Kind.Part1 f = true
listed Kind.Part2 f = true
listed Kind.Part3 f = true
listed Kind.Part4 f = true

-- every other field that the kind has is one that its record can hold
abbrev pub fits : Kind → FlatRecord → Bool
fits Kind.VorAzimuth f = true
fits Kind.VorFrequency f = true
fits Kind.IlsCourse f = is_flag f.inhibit
fits Kind.IlsGlide f = is_flag f.inhibit
fits Kind.IlsFrequency f = true
fits Kind.MlsFrequency f = true
fits Kind.MlsAzimuthDeviation f = is_flag f.inhibit && is_flag f.clearance
fits Kind.MlsGlideDeviation f = is_flag f.inhibit && is_flag f.clearance
fits Kind.SelectedAzimuth f = is_flag f.manual && is_short f.value
fits Kind.GreatestGlideAngle f = is_short f.value
fits Kind.SelectedGlideAngle f = is_flag f.manual && is_short f.value
fits Kind.Part1 f = is_octet f.value
fits Kind.Part2 f = is_short f.value
fits Kind.Part3 f = is_short f.value
fits Kind.Part4 f = is_flag f.parity_good && is_short f.value

-- the body of a kind, from the fields that the kind has; where they fit, a remainder is the value itself
abbrev pub body_from : Kind → FlatRecord → Body
body_from Kind.VorAzimuth f = Body.VorAzimuth (status_of f.status) (marker_of f.marker) (record { 0 = f.count })
body_from Kind.VorFrequency f = Body.VorFrequency (status_of f.status) f.value
body_from Kind.IlsCourse f = Body.IlsCourse (status_of f.status) (flag_of f.inhibit) (record { 0 = f.count })
body_from Kind.IlsGlide f = Body.IlsGlide (status_of f.status) (flag_of f.inhibit) (record { 0 = f.count })
body_from Kind.IlsFrequency f = Body.IlsFrequency (status_of f.status) (category_of f.category) f.value
body_from Kind.MlsFrequency f = Body.MlsFrequency (status_of f.status) f.value
body_from Kind.MlsAzimuthDeviation f = Body.MlsAzimuthDeviation (status_of f.status) (flag_of f.inhibit) (flag_of f.clearance) (record { 0 = f.count })
body_from Kind.MlsGlideDeviation f = Body.MlsGlideDeviation (status_of f.status) (flag_of f.inhibit) (flag_of f.clearance) (record { 0 = f.count })
body_from Kind.SelectedAzimuth f = Body.SelectedAzimuth (status_of f.status) (flag_of f.manual) (f.value % 65536)
body_from Kind.GreatestGlideAngle f = Body.GreatestGlideAngle (status_of f.status) (f.value % 65536)
body_from Kind.SelectedGlideAngle f = Body.SelectedGlideAngle (status_of f.status) (flag_of f.manual) (f.value % 65536)
body_from Kind.Part1 f = Body.Part1 f.word_number (f.value % 256)
body_from Kind.Part2 f = Body.Part2 (f.value % 65536)
body_from Kind.Part3 f = Body.Part3 (f.value % 65536)
body_from Kind.Part4 f = Body.Part4 (flag_of f.parity_good) (f.value % 65536)

-- the record of a known kind
abbrev pub record_as : Kind → FlatRecord → Record
record_as k f = record { source = f.source; body = body_from k f }

-- 4 before 6
abbrev pub record_of_kind : Kind → FlatRecord → Result Record Refusal
record_of_kind k f =
    cond (leb f.source 3 && listed k f)
    (cond (fits k f) (Ok (record_as k f)) (Err Refusal.Value))
    (Err Refusal.Code)

abbrev pub record_found : Option Kind → FlatRecord → Result Record Refusal
record_found (Some k) f = record_of_kind k f
record_found None f = Err Refusal.Label

-- the record that numbers stand for
abbrev pub record_from : FlatRecord → Result Record Refusal
record_from f = record_found (kind_at f.kind) f

-- ---- one step of the order at a time

pub codes_broken : (k : Kind) (f : FlatRecord) → (leb f.source 3 && listed k f) ≡ false → record_of_kind k f ≡ Err Refusal.Code
codes_broken k f c = rw c

pub value_broken : (k : Kind) (f : FlatRecord) → (leb f.source 3 && listed k f) ≡ true → fits k f ≡ false → record_of_kind k f ≡ Err Refusal.Value
value_broken k f c v = rw (c, v)

pub all-kept : (k : Kind) (f : FlatRecord) → (leb f.source 3 && listed k f) ≡ true → fits k f ≡ true → record_of_kind k f ≡ Ok (record_as k f)
all-kept k f c v = rw (c, v)

-- ---- a flag is no code

-- the same numbers with every flag 0
abbrev pub flagless : FlatRecord → FlatRecord
flagless f = numbers (f.refusal, f.kind, f.source) (f.status, f.marker, f.category) (0, 0, 0, 0) f.word_number f.count f.value
