-- What a walk over a sheet is: where it starts, and what one step gives and leaves, for every run of bytes and every state.
-- Assumes nothing.
use Rattle.std.specs.Prelude.{Bool, true, false, cond, List, ℕ, ◌+◌, eqb, ltb, length, take, drop, Result, Ok, Err, Option, Some, None}
use Rattle.fields.specs.declared.FieldKind.{FieldKind}
use Rattle.fields.specs.Start.{is_leaf, start_of}
use Rattle.fields.specs.Run.{Scan, Fields, Refused, sheet_of}
use Rattle.walk.specs.declared.Position.{Position}
use Rattle.walk.specs.declared.Level.{Level}
use Rattle.refusals.specs.declared.Refusal.{Refusal}
use Rattle.walk.specs.declared.WalkStep.{WalkStep}

-- at the sheet's first byte, in no group
abbrev pub at_start : Position
at_start = record { place = 0; end1 = 0; end2 = 0; end3 = 0 }

-- a legal sheet is walked from its first byte; the walk over a refused one only ever tells the refusal
abbrev pub walk_of : Scan → Result Position (Refusal × ℕ)
walk_of (Fields fs) = Ok at_start
walk_of (Refused f p) = Err (f, p)

-- the walk over a sheet, from its start
abbrev pub start_walk : List ℕ → Result Position (Refusal × ℕ)
start_walk s = walk_of (sheet_of s)

-- the innermost run, by which ends lie past the place: that of the deepest such end, else the sheet, whose length is given
abbrev pub level_by : (past3 past2 past1 : Bool) → Position → ℕ → Level
level_by true b c w n = record { depth = 4; end = w.end3 }
level_by false true c w n = record { depth = 3; end = w.end2 }
level_by false false true w n = record { depth = 2; end = w.end1 }
level_by false false false w n = record { depth = 1; end = n }

abbrev pub level_of : Position → ℕ → Level
level_of w n = level_by (ltb w.place w.end3) (ltb w.place w.end2) (ltb w.place w.end1) w n

-- into a group at a depth, whose content has this start and end
abbrev pub entered : Position → (depth from end : ℕ) → Position
entered w d from end =
    cond (eqb d 1) (record { place = from; end1 = end; end2 = w.end2; end3 = w.end3 })
    (cond (eqb d 2) (record { place = from; end1 = w.end1; end2 = end; end3 = w.end3 })
    (record { place = from; end1 = w.end1; end2 = w.end2; end3 = end }))

-- past a field, in the same groups
abbrev pub passed : Position → ℕ → Position
passed w end = record { place = end; end1 = w.end1; end2 = w.end2; end3 = w.end3 }

-- where the walk goes on after a field: past a leaf, inside a group
abbrev pub next_of : Position → (depth : ℕ) → FieldKind → (from end : ℕ) → Position
next_of w d k from end = cond (is_leaf k) (passed w end) (entered w d from end)

-- what is given where a field, the end or a refusal stands; at the end and at a refusal the walk stays
abbrev pub given_at : Position → (depth : ℕ) → Result (Option (FieldKind × ℕ)) Refusal → WalkStep
given_at w d (Ok None) = record { given = (Ok None); next = Ok w }
given_at w d (Err f) = record { given = Err (f, w.place); next = Ok w }
given_at w d (Ok (Some (k, n))) =
    record {
      given = Ok (Some (record { place = w.place; depth = d; kind = k; length = n }));
      next = Ok (next_of w d k (w.place + 3) (w.place + 3 + n));
    }

-- what is given at a position in a run
abbrev pub step_at : List ℕ → Position → Level → WalkStep
step_at s w l = given_at w l.depth (start_of l.depth (drop w.place (take l.end s)))

-- one step: what stands at the place, in the run that encloses it
abbrev pub step_of : List ℕ → Result Position (Refusal × ℕ) → WalkStep
step_of s (Ok w) = step_at s w (level_of w (length s))
step_of s (Err (f, p)) = record { given = Err (f, p); next = Err (f, p) }
