-- What a check says of a run of bytes: legal, or the first refusal with its offset. Assumes nothing.
use Rattle.std.specs.Prelude.{List, ℕ, ◌+◌, take, drop, Result, Ok, Err, Option, Some, None}
use Rattle.fields.specs.declared.FieldKind.{FieldKind}
use Rattle.fields.specs.Start.{start_of}
use Rattle.fields.specs.Run.{Scan, Fields, Refused, inside, run_of}
use Rattle.refusals.specs.declared.Refusal.{Refusal}
use Rattle.sheet.specs.declared.Checked.{Checked}

-- what the check of a run says, as callers have it
abbrev pub answer_of : Checked → Result Unit (Refusal × ℕ)
answer_of Checked.Legal = Ok tt
answer_of (Checked.Refused f p) = Err (f, p)

-- a run with fields is legal
abbrev pub checked_of : Scan → Result Unit (Refusal × ℕ)
checked_of (Fields fs) = Ok tt
checked_of (Refused f p) = Err (f, p)

-- a field whose inside is legal ends at `next`
abbrev pub after_inside : Result Unit (Refusal × ℕ) → ℕ → Result (Option ℕ) (Refusal × ℕ)
after_inside (Ok tt) next = Ok (Some next)
after_inside (Err (f, p)) next = Err (f, p)

-- the field that a start tells of, at a place in a run whose first byte has this offset: its own refusal, or its inside's, or the place after it
abbrev pub field_from : (depth offset at : ℕ) → List ℕ → Result (Option (FieldKind × ℕ)) Refusal → Result (Option ℕ) (Refusal × ℕ)
field_from d o at run (Ok None) = Ok None
field_from d o at run (Err f) = Err (f, o + at)
field_from d o at run (Ok (Some (k, n))) = after_inside (checked_of (inside run_of k d (o + at) (take n (drop 3 (drop at run))))) (at + 3 + n)

-- the field at a place in a run
abbrev pub field_of : (depth offset at : ℕ) → List ℕ → Result (Option ℕ) (Refusal × ℕ)
field_of d o at run = field_from d o at run (start_of d (drop at run))
