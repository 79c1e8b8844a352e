-- A record's word, or its refusal: 2 for a label of more than 8 bits, 4 if a code or the source is outside its list, else 6 if any other field is.
-- Assumes nothing.
use Rattle.std.specs.Prelude.{◌≡◌, Bool, true, false, cond, ◌&&◌, [], ◌∷◌, ◌++◌, ℕ, leb, ltb, ℤ, Result, Ok, Err}
use Rattle.std.proofs.Common.{le-leb, arith}
use Rattle.std.specs.Int.Signed.{mag}
use Rattle.bits.specs.Layout.{join}
use Rattle.bits.specs.Parity.{with_parity}
use Rattle.statuses.specs.Statuses.{decimal_code, decimal_listed}
use Rattle.channels.specs.Channels.{legal_frequency}
use Rattle.records.specs.Kinds.{kind_of}
use Rattle.records.specs.Layouts.{upper_layout, lower_layout}
use Rattle.frequencies.specs.declared.Band.{Band}
use Rattle.records.specs.declared.Body.{Body}
use Rattle.records.specs.declared.Record.{Record}
use Rattle.refusals.specs.declared.Refusal.{Refusal}
use Rattle.labels.specs.Label.{label_of}
use Rattle.labels.specs.Assignment.{Assignment}
use Rattle.labels.proofs.Assignment.{document01}
use Rattle.encode.specs.Fields.{fields_of, status_bits}

-- a status that the word has a code for: a frequency has none for failure
abbrev pub codes_listed : Body → Bool
codes_listed (Body.VorAzimuth status marker count) = true
codes_listed (Body.VorFrequency status frequency) = decimal_listed (decimal_code status)
codes_listed (Body.IlsCourse status inhibit count) = true
codes_listed (Body.IlsGlide status inhibit count) = true
codes_listed (Body.IlsFrequency status category frequency) = decimal_listed (decimal_code status)
codes_listed (Body.MlsFrequency status frequency) = decimal_listed (decimal_code status)
codes_listed (Body.MlsAzimuthDeviation status inhibit clearance count) = true
codes_listed (Body.MlsGlideDeviation status inhibit clearance count) = true
codes_listed (Body.SelectedAzimuth status manual degrees) = true
codes_listed (Body.GreatestGlideAngle status tenths) = true
codes_listed (Body.SelectedGlideAngle status manual tenths) = true
codes_listed (Body.Part1 number content) = true
codes_listed (Body.Part2 content) = true
codes_listed (Body.Part3 content) = true
codes_listed (Body.Part4 good content) = true

-- a count of 13 bits, from -4096 to 4095, and one of 16 bits (`mag` of k and of -k-1 is k)
abbrev pub narrow : ℤ → Bool
narrow z = ltb (mag z) 4096

abbrev pub wide : ℤ → Bool
wide z = ltb (mag z) 32768

-- every other field is legal
abbrev pub values_legal : Body → Bool
values_legal (Body.VorAzimuth status marker count) = narrow count.0
values_legal (Body.VorFrequency status frequency) = legal_frequency Band.Vor status frequency
values_legal (Body.IlsCourse status inhibit count) = narrow count.0
values_legal (Body.IlsGlide status inhibit count) = narrow count.0
values_legal (Body.IlsFrequency status category frequency) = legal_frequency Band.Ils status frequency
values_legal (Body.MlsFrequency status frequency) = legal_frequency Band.Mls status frequency
values_legal (Body.MlsAzimuthDeviation status inhibit clearance count) = wide count.0
values_legal (Body.MlsGlideDeviation status inhibit clearance count) = wide count.0
values_legal (Body.SelectedAzimuth status manual degrees) = leb degrees 359
values_legal (Body.GreatestGlideAngle status tenths) = leb tenths 255
values_legal (Body.SelectedGlideAngle status manual tenths) = leb tenths 511
values_legal (Body.Part1 number content) = leb number 255 && leb content 255
values_legal (Body.Part2 content) = leb content 65535
values_legal (Body.Part3 content) = leb content 65535
values_legal (Body.Part4 good content) = leb content 65535

-- what a body writes in bits 11 to 31
abbrev pub upper_bits : Body → ℕ
upper_bits b = join (upper_layout (kind_of b)) (fields_of b ++ (status_bits b ∷ []))

-- bits 1 to 31 under a label, and bit 32 makes the ones odd
abbrev pub lower_as : ℕ → Record → ℕ
lower_as l r = join (lower_layout (kind_of r.body)) (label_of l ∷ r.source ∷ (fields_of r.body ++ (status_bits r.body ∷ [])))

abbrev pub word_as : ℕ → Record → ℕ
word_as l r = with_parity 31 (lower_as l r)

-- a record under a label of 8 bits
abbrev pub encode_under : ℕ → Record → Result ℕ Refusal
encode_under l r =
    cond (leb r.source 3 && codes_listed r.body)
    (cond (values_legal r.body) (Ok (word_as l r)) (Err Refusal.Value))
    (Err Refusal.Code)

-- a record under any number: a greater one is no label
abbrev pub encode_as : ℕ → Record → Result ℕ Refusal
encode_as l r = cond (leb l 255) (encode_under l r) (Err Refusal.Label)

-- under the label of the record's kind, by an assignment of labels
abbrev pub record_label : Assignment → Record → ℕ
record_label a r = a.label (kind_of r.body)

abbrev pub word_of : Assignment → Record → ℕ
word_of a r = word_as (record_label a r) r

abbrev pub encode_with : Assignment → Record → Result ℕ Refusal
encode_with a r = encode_under (record_label a r) r

-- which is a label of 8 bits
pub encode-with : (a : Assignment) (r : Record) → encode_as (record_label a r) r ≡ encode_with a r
encode-with a r = rw (le-leb (record_label a r) 255 (omega (arith, a.short (kind_of r.body))))

-- under document 01's labels
abbrev pub encode_of : Record → Result ℕ Refusal
encode_of r = encode_with document01 r

-- ---- one step of the order at a time

pub values_broken : (a : Assignment) (r : Record) → (leb r.source 3 && codes_listed r.body) ≡ true → values_legal r.body ≡ false → encode_with a r ≡ Err Refusal.Value
values_broken a r c v = rw (c, v)

pub all_legal_lem : (a : Assignment) (r : Record) → (leb r.source 3 && codes_listed r.body) ≡ true → values_legal r.body ≡ true → encode_with a r ≡ Ok (word_of a r)
all_legal_lem a r c v = rw (c, v)
