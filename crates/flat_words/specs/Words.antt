-- The word of a record's numbers, or the number of its refusal.
-- Assumes nothing.
use Rattle.std.specs.Prelude.{Result, Ok, Err, ℕ}
use Rattle.refusals.specs.Numbers.{number_of}
use Rattle.records.specs.declared.Record.{Record}
use Rattle.refusals.specs.declared.Refusal.{Refusal}
use Rattle.encode.specs.Encode.{encode_of}
use Rattle.flat_fields.specs.Fields.{record_from}
use Rattle.flat_records.specs.declared.FlatRecord.{FlatRecord}
use Rattle.flat_words.specs.declared.FlatWord.{FlatWord}

-- the word beside 0, or 0 beside the refusal's number
abbrev pub flat_word : Result ℕ Refusal → FlatWord
flat_word (Ok w) = record { refusal = 0; word = w }
flat_word (Err f) = record { refusal = number_of f; word = 0 }

abbrev pub encoded : Result Record Refusal → Result ℕ Refusal
encoded (Ok r) = encode_of r
encoded (Err f) = Err f

-- what numbers are written to: their own refusal first, then what writing their record gives
abbrev pub encode_flat : FlatRecord → FlatWord
encode_flat f = flat_word (encoded (record_from f))
