-- The note at a place of a sheet: the sheet's own refusal, else the text of the note that starts there, else 10 with that place.
-- Assumes nothing.
use Rattle.std.specs.Prelude.{◌≡◌, Bool, true, false, ◌&&◌, cond, List, [], ◌∷◌, ℕ, ◌+◌, eqb, length, take, drop, Result, Ok, Err}
use Rattle.std.specs.Borrow.{Bor}
use Rattle.refusals.specs.declared.Refusal.{Refusal}
use Rattle.fields.specs.declared.FieldKind.{FieldKind}
use Rattle.fields.specs.Run.{Field, Scan, Fields, Refused}
use Rattle.notes.specs.declared.Span.{Span}

-- a text, or a refusal with its offset
pub data NoteText : Type 0 where
  Text : List ℕ → NoteText
  NoText : Refusal → ℕ → NoteText

-- whether a field of this kind is a note
abbrev pub is_note : FieldKind → Bool
is_note FieldKind.Word = false
is_note FieldKind.Figure = false
is_note FieldKind.Note = true
is_note FieldKind.Group = false

-- among the fields of a sheet: the content of the note at that place, else 10 with that place
abbrev pub note_in : List Field → ℕ → NoteText
note_in [] p = NoText Refusal.Tag p
note_in (f ∷ fs) p = cond (is_note f.kind && eqb f.place p) (Text f.content) (note_in fs p)

-- of a sheet: its own refusal first
abbrev pub note_of : Scan → ℕ → NoteText
note_of (Fields fs) p = note_in fs p
note_of (Refused f q) p = NoText f q

-- the bytes; none beside a refusal
abbrev pub text_of : NoteText → List ℕ
text_of (Text t) = t
text_of (NoText f q) = []

-- where the text of a note at a place lies: it starts 3 bytes after the place
abbrev pub found_of : ℕ → NoteText → Result (ℕ × ℕ) (Refusal × ℕ)
found_of p (Text t) = Ok (p + 3, p + 3 + length t)
found_of p (NoText f q) = Err (f, q)

-- the part of the sheet that is the text; the empty one at its start beside a refusal
abbrev pub span_of : Result (ℕ × ℕ) (Refusal × ℕ) → Span
span_of (Ok (start, end)) = record { start = start; end = end }
span_of (Err (f, q)) = record { start = 0; end = 0 }

-- a slice that is this part of the sheet slice: it points into the same memory, past the sheet's first byte by the start, and holds the bytes from the start to the end
pub record PartOf (sheet : Bor (List ℕ)) (span : Span) (part : Bor (List ℕ)) : Type 0 where
  pub lies : part.ref_ptr ≡ (sheet.ref_ptr.0, span.start + sheet.ref_ptr.1)
  pub holds : part.now ≡ drop span.start (take span.end sheet.now)
