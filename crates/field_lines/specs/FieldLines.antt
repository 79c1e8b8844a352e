-- The text of a sheet's fields: a line for each, in the order of the tags, with its place, its depth, its tag in two hex digits, the length of its content, and the content; of a sheet that is refused, its refusal alone, as in the listing.
-- Assumes nothing.
use Rattle.std.specs.Prelude.{List, [], ◌∷◌, ◌++◌, ℕ, length}
use Rattle.fields.specs.declared.FieldKind.{FieldKind}
use Rattle.fields.specs.Start.{tag_of}
use Rattle.fields.specs.Run.{Field, Scan, Fields, Refused, sheet_of}
use Rattle.text.specs.Ascii.{ascii}
use Rattle.numerals.specs.Digits.{decimal}
use Rattle.lines.specs.Lines.{refusal_line}
use Rattle.hex_texts.specs.HexTexts.{hex_byte}
use Rattle.field_texts.specs.FieldTexts.{content_text}

abbrev pub place_text : (place depth : ℕ) → List ℕ
place_text p d = decimal p ++ (ascii " " ++ decimal d) ++ ascii " "

abbrev pub head_text : (place depth : ℕ) → FieldKind → (len : ℕ) → List ℕ
head_text p d k n = place_text p d ++ hex_byte (tag_of k) ++ (ascii " " ++ decimal n)

-- the line of a field
abbrev pub line_of : Field → List ℕ
line_of f = head_text f.place f.depth f.kind (length f.content) ++ content_text f.kind f.content ++ ascii "\n"

abbrev pub lines_of : List Field → List ℕ
lines_of [] = []
lines_of (f ∷ fs) = line_of f ++ lines_of fs

-- the lines of the fields, or the refusal
abbrev pub fields_text : Scan → List ℕ
fields_text (Fields fs) = lines_of fs
fields_text (Refused f p) = refusal_line f p

abbrev pub text_of : List ℕ → List ℕ
text_of s = fields_text (sheet_of s)
