-- Writing one field at a place of a buffer, as document 01 has it: 15 if its end passes 32,768, else 13 if it passes the buffer, else only the field's bytes change.
-- Assumes nothing.
use Rattle.std.specs.Prelude.{cond, List, ◌++◌, ℕ, ◌+◌, ltb, length, take, drop, Result, Ok, Err}
use Rattle.refusals.specs.declared.Refusal.{Refusal}
use Rattle.fields.specs.declared.FieldKind.{FieldKind}
use Rattle.fields.specs.Start.{tag_of, tagged}
use Rattle.fields.specs.Run.{Scan, Fields, Refused, sheet_limit, inside_of}

-- a content of n bytes at a place of a buffer of `room` bytes: the place after the field, or the refusal
abbrev pub answer_of : (room place n : ℕ) → Result ℕ (Refusal × ℕ)
answer_of room place n =
    cond (ltb sheet_limit (place + 3 + n)) (Err (Refusal.Oversize, 0))
    (cond (ltb room (place + 3 + n)) (Err (Refusal.Room, 0)) (Ok (place + 3 + n)))

-- the whole buffer afterwards: the field's bytes stand at the place, or nothing has changed
abbrev pub buffer_of : Result ℕ (Refusal × ℕ) → List ℕ → (place : ℕ) → List ℕ → List ℕ
buffer_of (Ok end) out place bytes = take place out ++ bytes ++ drop end out
buffer_of (Err (f, p)) out place bytes = out

-- what writing gives: the answer, and the whole buffer afterwards
pub record Write : Type 0 where
  pub answer : Result ℕ (Refusal × ℕ)
  pub buffer : List ℕ

-- a tag, a length and a content, where they fit
abbrev pub put : List ℕ → (place tag : ℕ) → List ℕ → Write
put out place t c =
    record { answer = answer_of (length out) place (length c); buffer = buffer_of (answer_of (length out) place (length c)) out place (tagged t c) }

-- one field
abbrev pub write_of : List ℕ → (place : ℕ) → FieldKind → List ℕ → Write
write_of out place k c = put out place (tag_of k) c

-- a refusal of the run comes before those of the writing, with nothing written
abbrev pub unless_refused : Scan → List ℕ → Write → Write
unless_refused (Fields fs) out w = w
unless_refused (Refused f p) out w = record { answer = Err (f, p); buffer = out }

-- a group of a run of bytes, which is checked first as the inside of a top group
abbrev pub group_of : List ℕ → (place : ℕ) → List ℕ → Write
group_of out place run = unless_refused (inside_of run) out (write_of out place FieldKind.Group run)
