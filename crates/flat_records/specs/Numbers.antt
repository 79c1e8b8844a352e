-- The numbers of a record, of each kind, and of a refusal.
-- Assumes nothing.
use Rattle.std.specs.Prelude.{ℕ, ℤ, pos, Result, Ok, Err}
use Rattle.codes.specs.Codes.{marker_code, category_code, flag_bit}
use Rattle.refusals.specs.Numbers.{number_of}
use Rattle.records.specs.All.{place_of}
use Rattle.records.specs.Kinds.{kind_of}
use Rattle.records.specs.declared.Body.{Body}
use Rattle.statuses.specs.declared.Status.{Status}
use Rattle.records.specs.declared.Record.{Record}
use Rattle.refusals.specs.declared.Refusal.{Refusal}
use Rattle.flat_records.specs.declared.FlatRecord.{FlatRecord}

-- 1 failure, 2 nodata, 3 test, 4 ready; 0 is left for none
abbrev pub status_number : Status → ℕ
status_number Status.Failure = 1
status_number Status.NoData = 2
status_number Status.Test = 3
status_number Status.Ready = 4

-- the thirteen numbers, in the struct's order: the refusal, the kind and the source; the three codes; the four flags; the word number, the count and the value
abbrev pub numbers : ℕ × ℕ × ℕ → ℕ × ℕ × ℕ → ℕ × ℕ × ℕ × ℕ → ℕ → ℤ → ℕ → FlatRecord
numbers (refusal, kind, source) (status, marker, category) (inhibit, clearance, manual, good) number count value = record {
  refusal = refusal;
  kind = kind;
  source = source;
  status = status;
  marker = marker;
  category = category;
  inhibit = inhibit;
  clearance = clearance;
  manual = manual;
  parity_good = good;
  word_number = number;
  count = count;
  value = value;
}

-- a kind with a count, one with another value, a part of group C, and a refusal: zero in every field that is not named
abbrev pub with_count : ℕ → ℕ → ℕ → ℕ → ℕ → ℕ → ℤ → FlatRecord
with_count kind source status marker inhibit clearance count = numbers (0, kind, source) (status, marker, 0) (inhibit, clearance, 0, 0) 0 count 0

abbrev pub with_value : ℕ → ℕ → ℕ → ℕ → ℕ → ℕ → FlatRecord
with_value kind source status category manual value = numbers (0, kind, source) (status, 0, category) (0, 0, manual, 0) 0 (pos 0) value

abbrev pub part : ℕ → ℕ → ℕ → ℕ → ℕ → FlatRecord
part kind source good number content = numbers (0, kind, source) (0, 0, 0) (0, 0, 0, good) number (pos 0) content

abbrev pub refused : ℕ → FlatRecord
refused refusal = numbers (refusal, 0, 0) (0, 0, 0) (0, 0, 0, 0) 0 (pos 0) 0

-- the numbers of a record, from its kind's number, its source and its body
abbrev pub flat_numbers : ℕ → ℕ → Body → FlatRecord
flat_numbers n s (Body.VorAzimuth status marker count) = with_count n s (status_number status) (marker_code marker) 0 0 count.0
flat_numbers n s (Body.VorFrequency status frequency) = with_value n s (status_number status) 0 0 frequency
flat_numbers n s (Body.IlsCourse status inhibit count) = with_count n s (status_number status) 0 (flag_bit inhibit) 0 count.0
flat_numbers n s (Body.IlsGlide status inhibit count) = with_count n s (status_number status) 0 (flag_bit inhibit) 0 count.0
flat_numbers n s (Body.IlsFrequency status category frequency) = with_value n s (status_number status) (category_code category) 0 frequency
flat_numbers n s (Body.MlsFrequency status frequency) = with_value n s (status_number status) 0 0 frequency
flat_numbers n s (Body.MlsAzimuthDeviation status inhibit clearance count) = with_count n s (status_number status) 0 (flag_bit inhibit) (flag_bit clearance) count.0
flat_numbers n s (Body.MlsGlideDeviation status inhibit clearance count) = with_count n s (status_number status) 0 (flag_bit inhibit) (flag_bit clearance) count.0
flat_numbers n s (Body.SelectedAzimuth status manual degrees) = with_value n s (status_number status) 0 (flag_bit manual) degrees
flat_numbers n s (Body.GreatestGlideAngle status tenths) = with_value n s (status_number status) 0 0 tenths
flat_numbers n s (Body.SelectedGlideAngle status manual tenths) = with_value n s (status_number status) 0 (flag_bit manual) tenths
flat_numbers n s (Body.Part1 number content) = part n s 0 number content
flat_numbers n s (Body.Part2 content) = part n s 0 0 content
flat_numbers n s (Body.Part3 content) = part n s 0 0 content
flat_numbers n s (Body.Part4 good content) = part n s (flag_bit good) 0 content

-- a kind's number is its place in document 01's table
abbrev pub flat_body : ℕ → Body → FlatRecord
flat_body s b = flat_numbers (place_of (kind_of b)) s b

-- the numbers of a word's record, or of its refusal
abbrev pub flat_of : Result Record Refusal → FlatRecord
flat_of (Ok r) = flat_body r.source r.body
flat_of (Err f) = refused (number_of f)
