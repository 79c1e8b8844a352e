-- Where the text of a note is, by its start and its length instead of its end; and that it is there.
-- Assumes nothing.
use Rattle.std.specs.Prelude.{◌≡◌, ℕ, ◌+◌, ◌-◌, ◌≤◌, length, Result, Ok, Err}
use Rattle.std.proofs.Common.{ap, arith}
use Rattle.refusals.specs.Numbers.{number_of}
use Rattle.refusals.specs.declared.Refusal.{Refusal}
use Rattle.notes.specs.Note.{NoteText, Text, NoText, found_of}
use Rattle.flat_contents.specs.declared.FlatNote.{FlatNote}

-- the numbers of a start and an end
abbrev pub flat_found : Result (ℕ × ℕ) (Refusal × ℕ) → FlatNote
flat_found (Ok (start, end)) = record { refusal = 0; start = start; length = end - start }
flat_found (Err (f, q)) = record { refusal = number_of f; start = q; length = 0 }

-- no text ends before its start
pub ordered : (p : ℕ) (t : NoteText) (start end : ℕ) → found_of p t ≡ Ok (start, end) → start ≤ end
ordered p (NoText f q) start end h = let z : ◌≡◌ {A = ℕ} 0 1 = cc in absurd (omega arith)
ordered p (Text t) start end h =
    let pair : (p + 3, p + 3 + length t) ≡ (start, end) = cc in
    let first : p + 3 ≡ start = ap (λ (x : ℕ × ℕ). x.0) pair in
    let last : p + 3 + length t ≡ end = ap (λ (x : ℕ × ℕ). x.1) pair in
    omega arith
