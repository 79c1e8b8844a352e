-- A walk over a sheet with its state and its fields as numbers.
-- Assumes nothing.
use Rattle.std.specs.Prelude.{List, [], ◌∷◌, ℕ, Option, Some, None, Result, Ok, Err}
use Rattle.refusals.specs.Numbers.{number_of, numbered}
use Rattle.walk.specs.declared.Position.{Position}
use Rattle.refusals.specs.declared.Refusal.{Refusal}
use Rattle.fields.specs.Start.{tag_of}
use Rattle.walk.specs.declared.FieldAt.{FieldAt}
use Rattle.walk.specs.declared.WalkStep.{WalkStep}
use Rattle.walk.specs.Step.{step_of}
use Rattle.flat_walks.specs.declared.FlatField.{FlatField}
use Rattle.flat_walks.specs.declared.FlatWalk.{FlatWalk}
use Rattle.flat_walks.specs.declared.FlatWalked.{FlatWalked}

-- the numbers of a walk: no end counts beside a refusal
abbrev pub flat_walk : Result Position (Refusal × ℕ) → FlatWalk
flat_walk (Ok w) = record { refusal = 0; place = w.place; end1 = w.end1; end2 = w.end2; end3 = w.end3 }
flat_walk (Err (f, p)) = record { refusal = number_of f; place = p; end1 = 0; end2 = 0; end3 = 0 }

-- the refusals that a sheet can have: 9, 10, 11, 12 and 15
abbrev pub sheet_refusals : List Refusal
sheet_refusals = Refusal.Truncated ∷ Refusal.Tag ∷ Refusal.Length ∷ Refusal.Depth ∷ Refusal.Oversize ∷ []

-- the walk that numbers stand for, for all numbers: that of a refused sheet beside the number of such a refusal, beside any other number a position
abbrev pub walk_numbered : Option Refusal → FlatWalk → Result Position (Refusal × ℕ)
walk_numbered (Some f) w = Err (f, w.place)
walk_numbered None w = Ok (record { place = w.place; end1 = w.end1; end2 = w.end2; end3 = w.end3 })

abbrev pub walk_from : FlatWalk → Result Position (Refusal × ℕ)
walk_from w = walk_numbered (numbered sheet_refusals w.refusal) w

-- the numbers of what a step gives
abbrev pub flat_field : Result (Option FieldAt) (Refusal × ℕ) → FlatField
flat_field (Ok (Some a)) = record { refusal = 0; tag = tag_of a.kind; depth = a.depth; place = a.place; length = a.length }
flat_field (Err (f, p)) = record { refusal = number_of f; tag = 0; depth = 0; place = p; length = 0 }
flat_field (Ok None) = record { refusal = 0; tag = 0; depth = 0; place = 0; length = 0 }

-- the numbers of a step
abbrev pub flat_step : WalkStep → FlatWalked
flat_step t = record { field = flat_field t.given; next = flat_walk t.next }

-- one step over a sheet, from numbers
abbrev pub stepped : List ℕ → FlatWalk → FlatWalked
stepped s w = flat_step (step_of s (walk_from w))
