-- What is shown of a field can be read back: the hex digits of bytes mean their number, and a note's text is told by what is shown of it, in printable ASCII.
-- Assumes nothing.
use Rattle.std.specs.Prelude.{◌≡◌, refl, List, [], ◌∷◌, ℕ}
use Rattle.std.proofs.Common.{sym, ap, ◌∙◌}
use Rattle.fields.specs.declared.FieldKind.{FieldKind}
use Rattle.contents.specs.BigEndian.{Bytes}
use Rattle.contents.specs.Contents.{figure_in}
use Rattle.text.specs.Ascii.{ascii}
use Rattle.hex_texts.specs.HexTexts.{hex_byte}
use Rattle.field_texts.specs.FieldTexts.{hex_bytes, note_byte, note_text, figure_text, content_text}
use Rattle.field_texts.specs.Reading.{unescaped, Printable}
use Rattle.field_texts.specs.TheoremsLemmas.{hex_byte_printable, each_printable, printable_both, blank_printable, figure_printable}
use Rattle.field_texts.proofs.TheoremsLemmas.{byte_read, byte_printable}

-- The text of a note is read back from what is shown of it.
pub note-shown : (t : List ℕ) → Bytes t → unescaped (note_text t) ≡ t
note-shown [] h = refl
note-shown (b ∷ t) h = byte_read b h.0 (note_text t) ∙ ap (λ (x : List ℕ). b ∷ x) (note-shown t h.1)

-- So no two notes are shown alike.
pub notes_differ : (s t : List ℕ) → Bytes s → Bytes t → note_text s ≡ note_text t → s ≡ t
notes_differ s t h k e = sym (note-shown s h) ∙ ap unescaped e ∙ note-shown t k

-- What is shown is printable ASCII, whatever the bytes of the text.
pub note-shown_printable : (t : List ℕ) → Printable (note_text t)
note-shown_printable = each_printable note_byte byte_printable

-- And so is what is shown of every field.
pub content_printable : (k : FieldKind) (c : List ℕ) → Printable (content_text k c)
content_printable FieldKind.Word c = printable_both (ascii " ") (hex_bytes c) blank_printable (each_printable hex_byte hex_byte_printable c)
content_printable FieldKind.Figure c = printable_both (ascii " ") (figure_text c) blank_printable (figure_printable (figure_in c))
content_printable FieldKind.Note c = printable_both (ascii " ") (note_text c) blank_printable (note-shown_printable c)
content_printable FieldKind.Group c = tt
