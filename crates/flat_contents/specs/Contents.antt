-- The numbers of what stands in a field: a word, a figure, or the place of a text.
-- Assumes nothing.
use Rattle.std.specs.Prelude.{ℕ, ◌+◌, pos, length, Result, Ok, Err, ℤ}
use Rattle.refusals.specs.Numbers.{number_of}
use Rattle.refusals.specs.declared.Refusal.{Refusal}
use Rattle.notes.specs.Note.{NoteText, Text, NoText}
use Rattle.flat_words.specs.declared.FlatWord.{FlatWord}
use Rattle.flat_contents.specs.declared.FlatFigure.{FlatFigure}
use Rattle.flat_contents.specs.declared.FlatNote.{FlatNote}

abbrev pub flat_word_in : Result ℕ Refusal → FlatWord
flat_word_in (Ok w) = record { refusal = 0; word = w }
flat_word_in (Err f) = record { refusal = number_of f; word = 0 }

abbrev pub flat_figure_in : Result (ℕ × ℤ) Refusal → FlatFigure
flat_figure_in (Ok (l, m)) = record { refusal = 0; label = l; millionths = m }
flat_figure_in (Err f) = record { refusal = number_of f; label = 0; millionths = pos 0 }

-- the text of the note at a place, which starts 3 bytes after it; beside a refusal the offset that it has
abbrev pub flat_note : (place : ℕ) → NoteText → FlatNote
flat_note p (Text t) = record { refusal = 0; start = p + 3; length = length t }
flat_note p (NoText f q) = record { refusal = number_of f; start = q; length = 0 }
