-- What the words of each kind are asked, as numbers, and the row that they are packed into. That they ask what document 01 asks is in `AskingLaws`.
-- Assumes nothing.
use Rattle.std.specs.Prelude.{ℕ, ◌+◌, ◌*◌, ◌/◌, ◌%◌}
use Rattle.bits.specs.Layout.{mask}
use Rattle.records.specs.Layouts.{word_layout}
use Rattle.records.specs.declared.Kind.{Kind}
use Rattle.records.specs.declared.Kind.TheVariants.{VorAzimuth, VorFrequency, IlsCourse, IlsGlide, IlsFrequency, MlsFrequency, MlsAzimuthDeviation, MlsGlideDeviation, SelectedAzimuth, GreatestGlideAngle, SelectedGlideAngle, Part1, Part2, Part3, Part4}
use Rattle.labels.specs.Table.{byte_of}
use Rattle.word_kinds.specs.HashLemmas.{candidate_of}
use Rattle.word_rows.specs.declared.Asked.{Asked}

-- A kind's numbers beside the byte of its label and its zero bits, which are those of document 01's tables:
--   a code of three bits is taken from a place, and bit c of `codes` is one where code c is listed;
--   a frequency is one of VOR (1), ILS (2) or MLS (3);
--   a count is short, bits 17 to 29, or long, bits 14 to 29;
--   the setting in bits 20 to 28 is limited to 359, or an angle with its parity.
-- A field that a kind has not is 0, and every code is listed.
abbrev row : Kind → (place codes band short long limited angle : ℕ) → Asked
row k place codes band short long limited angle = record {
  byte = byte_of k;
  codes = codes;
  place = place;
  band = band;
  short = short;
  long = long;
  limited = limited;
  angle = angle;
  zeros = mask (word_layout k);
}

-- a frequency of a band; a count; a setting; a part's code in bits 30 to 32, whatever the parity bit is
abbrev frequency : Kind → (band : ℕ) → Asked
frequency k band = row k 0 0xff band 0 0 0 0

abbrev count : Kind → (short long : ℕ) → Asked
count k short long = row k 0 0xff 0 short long 0 0

abbrev setting : Kind → (limited angle : ℕ) → Asked
setting k limited angle = row k 0 0xff 0 0 0 limited angle

abbrev part : Kind → (codes : ℕ) → Asked
part k codes = row k 29 codes 0 0 0 0 0

abbrev pub asked : Kind → Asked
asked VorAzimuth = row VorAzimuth 10 0b00010111 0 1 0 0 0
asked VorFrequency = frequency VorFrequency 1
asked IlsCourse = count IlsCourse 1 0
asked IlsGlide = count IlsGlide 1 0
asked IlsFrequency = frequency IlsFrequency 2
asked MlsFrequency = frequency MlsFrequency 3
asked MlsAzimuthDeviation = count MlsAzimuthDeviation 0 1
asked MlsGlideDeviation = count MlsGlideDeviation 0 1
asked SelectedAzimuth = setting SelectedAzimuth 1 0
asked GreatestGlideAngle = setting GreatestGlideAngle 0 1
asked SelectedGlideAngle = setting SelectedGlideAngle 0 0
asked Part1 = part Part1 0b00010001
asked Part2 = part Part2 0b00100010
asked Part3 = part Part3 0b01000100
asked Part4 = part Part4 0b10001000

-- the fields of a packed row, the byte lowest
abbrev pub unpacked : ℕ → Asked
unpacked n = record {
  byte = n % 0x100;
  codes = n / 0x100 % 0x100;
  place = n / 0x10000 % 0x20;
  band = n / 0x1000000 % 4;
  short = n / 0x10000000 % 2;
  long = n / 0x20000000 % 2;
  limited = n / 0x40000000 % 2;
  angle = n / 0x80000000 % 2;
  zeros = n / 0x100000000;
}

abbrev pack : Asked → ℕ
pack a =
    a.byte + 0x100 * a.codes + 0x10000 * a.place + 0x1000000 * a.band
    + 0x10000000 * a.short
    + 0x20000000 * a.long
    + 0x40000000 * a.limited
    + 0x80000000 * a.angle
    + 0x100000000 * a.zeros

abbrev pub packed : Kind → ℕ
packed k = pack (asked k)

-- the only kind that a word with this lowest byte can be of
abbrev pub candidate : ℕ → Kind
candidate b = (candidate_of b).0
