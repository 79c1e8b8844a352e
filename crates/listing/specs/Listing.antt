-- The listing of a sheet, from the sheet's fields: a line for each word and each figure, nothing for notes and groups, last the total; of a sheet that is refused, its refusal alone.
-- Assumes nothing.
use Rattle.std.specs.Prelude.{cond, List, [], ◌∷◌, ◌++◌, ℕ, eqb, ltb, length, drop, Option, Some, None, Result, Ok, Err, ℤ}
use Rattle.refusals.specs.declared.Refusal.{Refusal}
use Rattle.fields.specs.declared.FieldKind.{FieldKind}
use Rattle.fields.specs.Run.{Field, Scan, Fields, Refused, sheet_of}
use Rattle.contents.specs.Contents.{word_in, figure_in}
use Rattle.verdicts.specs.Verdicts.{verdict_of}
use Rattle.word_lines.specs.WordLines.{word_line}
use Rattle.lines.specs.Lines.{verdict_line, total_line, refusal_line}
use Rattle.totals.specs.Totals.{word_of, words_in, refused_words_in}

-- ---- the lines

-- what a figure at a depth is tested against: the field just before it in its group, if that is a word.
-- That field is the one before it in the order of the tags, if that stands at the same depth (specs/Groups.antt).
abbrev pub previous : Option (ℕ × ℕ) → (depth : ℕ) → Option ℕ
previous None d = None
previous (Some (e, w)) d = cond (eqb e d) (Some w) None

-- what a field is to the next one: a word with its depth, or nothing that a figure is tested against
abbrev pub word_at : ℕ → Result ℕ Refusal → Option (ℕ × ℕ)
word_at d (Ok w) = Some (d, w)
word_at d (Err f) = None

abbrev pub after : FieldKind → (depth : ℕ) → List ℕ → Option (ℕ × ℕ)
after k d c = word_at d (word_of k c)

abbrev pub line_of_word : Result ℕ Refusal → List ℕ
line_of_word (Ok w) = word_line w
line_of_word (Err f) = []

abbrev pub line_of_figure : Option ℕ → Result (ℕ × ℤ) Refusal → List ℕ
line_of_figure p (Ok (l, m)) = verdict_line (verdict_of p l m)
line_of_figure p (Err f) = []

-- the line of a field, with what a figure is tested against (a word field of a sheet always has its four bytes, a figure field its nine)
abbrev pub line_after : Option ℕ → FieldKind → List ℕ → List ℕ
line_after p FieldKind.Word c = line_of_word (word_in c)
line_after p FieldKind.Figure c = line_of_figure p (figure_in c)
line_after p FieldKind.Note c = []
line_after p FieldKind.Group c = []

-- the same by what stands just before the field in the order of the tags
abbrev pub line_of : Option (ℕ × ℕ) → FieldKind → (depth : ℕ) → List ℕ → List ℕ
line_of b k d c = line_after (previous b d) k c

-- the lines of the fields, in their order
abbrev pub lines_of : Option (ℕ × ℕ) → List Field → List ℕ
lines_of b [] = []
lines_of b (f ∷ fs) = line_of b f.kind f.depth f.content ++ lines_of (after f.kind f.depth f.content) fs

-- ---- the text

-- the lines and the total, or the refusal
abbrev pub listing_of : Scan → List ℕ
listing_of (Refused f p) = refusal_line f p
listing_of (Fields fs) = lines_of None fs ++ total_line (words_in fs) (refused_words_in fs)

-- the listing of a sheet
abbrev pub text_of : List ℕ → List ℕ
text_of s = listing_of (sheet_of s)

-- ---- the text in a buffer: 13 where it is too long for it, and then the buffer is as it was; else the text stands first in it, and the rest is as it was

abbrev pub listed_of : (text out : List ℕ) → Result ℕ Refusal
listed_of text out = cond (ltb (length out) (length text)) (Err Refusal.Room) (Ok (length text))

abbrev pub buffer_of : (text out : List ℕ) → List ℕ
buffer_of text out = cond (ltb (length out) (length text)) out (text ++ drop (length text) out)
