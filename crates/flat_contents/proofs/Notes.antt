-- Where the text of a note is, by its start and its length instead of its end; and that it is there.
-- Assumes nothing.
use Rattle.std.specs.Prelude.{◌≡◌, refl, List, ℕ, ◌+◌, ◌-◌, ◌≤◌, length, take, drop}
use Rattle.std.proofs.Common.{sym, ap, subst, ◌∙◌, arith}
use Rattle.fields.specs.Run.{sheet_of}
use Rattle.walk.specs.WithinLemmas.{drop-take}
use Rattle.notes.specs.Note.{NoteText, Text, NoText, note_of, found_of}
use Rattle.notes.specs.Place.{Lies}
use Rattle.notes.proofs.Place.{text_lies}
use Rattle.flat_contents.specs.Contents.{flat_note}
use Rattle.flat_contents.specs.Notes.{flat_found}

pub found_flat : (p : ℕ) (t : NoteText) → flat_found (found_of p t) ≡ flat_note p t
found_flat p (NoText f q) = refl
found_flat p (Text t) =
    let long : p + 3 + length t - (p + 3) ≡ length t = omega arith in
    ap (λ (n : ℕ). record { refusal = 0; start = p + 3; length = n }) long

-- The bytes of a sheet from a note's start on, as many as its length, are there, and are its text.
pub note-holds : (s : List ℕ) (p : ℕ) (t : List ℕ) → note_of (sheet_of s) p ≡ Text t
    → ((flat_note p (Text t)).start + (flat_note p (Text t)).length ≤ length s) × (take (flat_note p (Text t)).length (drop (flat_note p (Text t)).start s) ≡ t)
note-holds s p t e =
    let lies = subst (Lies s p) e (text_lies s p) in
    let in_sheet : p + 3 + length t ≤ length s = lies.in_sheet in
    (in_sheet, sym (drop-take (p + 3) (length t) s (omega arith)) ∙ lies.holds)
