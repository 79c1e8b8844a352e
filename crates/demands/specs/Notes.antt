-- Document 01's sentences on notes, each beside what states it.
-- Assumes nothing.
use Rattle.std.specs.Prelude.{◌≡◌, ℕ}
use mathlib.Core.List.{List, [], Memᴰ}
use Rattle.refusals.specs.Order.{Follows}
use Rattle.refusals.specs.declared.Refusal.{Refusal}
use Rattle.fields.specs.declared.FieldKind.{FieldKind}
use Rattle.fields.specs.Grammar.{Bytes}
use Rattle.fields.specs.Run.{Field, Fields, sheet_of}
use Rattle.notes.specs.Note.{NoteText, Text, NoText, text_of}
use Rattle.notes.specs.Place.{Lies}
use Rattle.demands.specs.EntryRules.{note_rules, noted}

-- `note s place` is what asking for the note at a place of a sheet gives.
pub record Notes (note : List ℕ → ℕ → NoteText) : Type 0 where
  -- "A note is asked for by its place: the sheet's own refusal first, then 10 with that place where the walk finds no note;"
  pub order : (s : List ℕ) → Bytes s → (place : ℕ) → Follows noted (note_rules s place) (note s place)
  pub by_place : (s : List ℕ) (fs : List Field) (f : Field) → sheet_of s ≡ Fields fs → Memᴰ f fs → f.kind ≡ FieldKind.Note → note s f.place ≡ Text f.content
  -- "either comes with an empty text."
  pub empty : (s : List ℕ) (place : ℕ) (f : Refusal) (p : ℕ) → note s place ≡ NoText f p → text_of (note s place) ≡ []
  -- "The text of a note is handed back as the sheet's own bytes." It is a part of the sheet; that the slice lies in the sheet's memory is in the contract of `note_text`.
  pub own_bytes_lem : (s : List ℕ) (place : ℕ) → Lies s place (note s place)
