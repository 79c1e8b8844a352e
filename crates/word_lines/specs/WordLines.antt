-- The line of a word, byte by byte.
-- Assumes nothing.
use Rattle.std.specs.Prelude.{List, ◌++◌, ℕ, Option, Some, None, Result, Ok, Err}
use Rattle.refusals.specs.Numbers.{number_of}
use Rattle.refusals.specs.declared.Refusal.{Refusal}
use Rattle.statuses.specs.declared.Status.{Status}
use Rattle.labels.specs.Label.{label_of}
use Rattle.decode.specs.Decode.{decode_of}
use Rattle.records.specs.declared.Record.{Record}
use Rattle.text.specs.Ascii.{ascii}
use Rattle.numerals.specs.Digits.{octal3, decimal, fixed, sign}
use Rattle.columns.specs.Columns.{columns_of}
use Rattle.columns.specs.declared.Mark.{Mark}
use Rattle.columns.specs.declared.Figure.{Figure}
use Rattle.columns.specs.declared.Columns.{Columns}

abbrev pub status_text : Status → List ℕ
status_text Status.Failure = ascii "failure"
status_text Status.NoData = ascii "nodata"
status_text Status.Test = ascii "test"
status_text Status.Ready = ascii "ready"

-- the status, or the part in its place
abbrev pub mark_text : Mark → List ℕ
mark_text (Mark.Status status) = status_text status
mark_text (Mark.Part part) = ascii "part" ++ decimal part

-- a figure, or a dash where there is none
abbrev pub figure_text : Option Figure → List ℕ
figure_text (Some figure) = sign figure.negative ++ fixed figure.places figure.size
figure_text None = ascii "-"

-- label, source, status or part, and figure, with blanks between them
abbrev pub heading : ℕ → ℕ → List ℕ
heading label source = octal3 label ++ ascii " " ++ decimal source ++ ascii " "

abbrev pub marked : ℕ → ℕ → Mark → List ℕ
marked label source mark = heading label source ++ mark_text mark ++ ascii " "

abbrev pub record_line : ℕ → ℕ → Columns → List ℕ
record_line label source columns = marked label source columns.mark ++ figure_text columns.figure ++ ascii "\n"

abbrev pub refused_line : Refusal → List ℕ
refused_line refusal = ascii "refused " ++ decimal (number_of refusal) ++ ascii "\n"

-- the line of a word by what decoding gives of it
abbrev pub decoded_line : Result Record Refusal → ℕ → List ℕ
decoded_line (Ok r) label = record_line label r.source (columns_of r.body)
decoded_line (Err refusal) label = refused_line refusal

-- the line of a word
abbrev pub word_line : ℕ → List ℕ
word_line w = decoded_line (decode_of w) (label_of w)
