-- What is left of a walk: the fields still to come, and how a step tells of them.
-- Assumes nothing.
use Rattle.std.specs.Prelude.{◌≡◌, Result, Ok, Err, Option, Some, None}
use Rattle.std.proofs.Common.{◌∙◌, length-take, drop_of_length-le}
use Rattle.std.proofs.Math.Path.{ap}
use mathlib.Core.List.{List, [], ◌∷◌}
use Prim.Native.Nat.{ℕ, suc, ◌+◌, ◌-◌, ◌≤◌, min, max}
use native.Mathlib.Omega.{arith}
use Rattle.std.proofs.Math.ListN.{length, take, drop}
use Rattle.std.proofs.Math.Seq.{take-length}
use Rattle.refusals.specs.declared.Refusal.{Refusal}
use Rattle.fields.specs.Start.{start_of}
use Rattle.fields.specs.Run.{Field, Scan, Fields, Refused, ◌and_then◌, step, scan, run_of}
use Rattle.fields.proofs.Laws.{run_step}
use Rattle.fields.specs.AndThenLemmas.{nothing-first, nothing-after}
use Rattle.walk.specs.declared.Position.{Position}
use Rattle.walk.specs.declared.FieldAt.{FieldAt}
use Rattle.walk.specs.Step.{at_start}

-- the rest of a run from a place to its end, then what follows it
unfoldable pub level : List ℕ → (depth end : ℕ) → (ℕ → Scan) → (place : ℕ) → Scan
level s d e after p = run_of d p (drop p (take e s)) and_then after (max p e)

-- from a place on: the rest of the run at each depth, then of the runs around it; a run that ended before the place has no rest
abbrev pub depth1 : List ℕ → ℕ → Scan
depth1 s = level s 1 (length s) (λ (p : ℕ). Fields [])

abbrev pub depth2 : List ℕ → Position → ℕ → Scan
depth2 s w = level s 2 w.end1 (depth1 s)

abbrev pub depth3 : List ℕ → Position → ℕ → Scan
depth3 s w = level s 3 w.end2 (depth2 s w)

abbrev pub remaining : List ℕ → Position → Scan
remaining s w = level s 4 w.end3 (depth3 s w) w.place

-- what is left of a walk
abbrev pub rest_of : List ℕ → Result Position (Refusal × ℕ) → Scan
rest_of s (Ok w) = remaining s w
rest_of s (Err (f, p)) = Refused f p

-- the field that a step gives, with its content: the sheet's bytes from 3 past its place on
abbrev pub field_of : List ℕ → FieldAt → Field
field_of s a = record { place = a.place; depth = a.depth; kind = a.kind; content = take a.length (drop (a.place + 3) s) }

-- what a step tells of the rest: the field that it gives and what is left after it, the refusal, or nothing
abbrev pub told : List ℕ → Result (Option FieldAt) (Refusal × ℕ) → Result Position (Refusal × ℕ) → Scan
told s (Ok (Some a)) w = Fields (field_of s a ∷ []) and_then rest_of s w
told s (Err (f, p)) w = Refused f p
told s (Ok None) w = Fields []

-- ---- the rest of one run

no_byte : (d p : ℕ) (bs : List ℕ) → bs ≡ [] → run_of d p bs ≡ Fields []
unfolding scan
no_byte d p bs e = ap (λ (l : List ℕ). run_of d p l) e

module _ (s : List ℕ) (d e : ℕ) (after : ℕ → Scan) (p : ℕ) where
  level_empty : drop p (take e s) ≡ [] → level s d e after p ≡ after (max p e)
  unfolding level
  level_empty h = ap (λ (r : Scan). r and_then after (max p e)) (no_byte d p (drop p (take e s)) h) ∙ nothing-first (after (max p e))

  -- a run whose end is not past the place
  pub level-ended : e ≤ p → level s d e after p ≡ after p
  level-ended h =
      let part : length (take e s) ≡ min e (length s) = length-take e s in
      let same : max p e ≡ p = omega arith in
      level_empty (drop_of_length-le (take e s) {i = p} (omega arith)) ∙ ap after same

  -- a place past the sheet
  pub level_past : length s ≤ p → level s d e after p ≡ after (max p e)
  level_past h =
      let part : length (take e s) ≡ min e (length s) = length-take e s in
      level_empty (drop_of_length-le (take e s) {i = p} (omega arith))

  pub level-refused : (f : Refusal) → start_of d (drop p (take e s)) ≡ Err f → level s d e after p ≡ Refused f p
  unfolding level
  level-refused f h =
      ap (λ (r : Scan). r and_then after (max p e)) (run_step d p (drop p (take e s)) ∙ ap (step run_of d p (drop p (take e s))) h)

  -- a group's inside is a run of its own, which the rest of this one follows
  pub level-inside : (n : ℕ) → run_of (suc d) (p + 3) (drop (p + 3) (take (p + 3 + n) s)) and_then level s d e after (p + 3 + n)
      ≡ level s (suc d) (p + 3 + n) (level s d e after) (p + 3)
  unfolding level
  level-inside n =
      let ends : p + 3 + n ≡ max (p + 3) (p + 3 + n) = omega arith in
      ap (λ (q : ℕ). run_of (suc d) (p + 3) (drop (p + 3) (take (p + 3 + n) s)) and_then level s d e after q) ends

-- ---- where nothing stands

-- ---- a step in the run that encloses the place

-- at the start no end counts, and the run is the sheet
pub whole : (s : List ℕ) → remaining s at_start ≡ run_of 1 0 s
unfolding level
whole s =
    level-ended s 4 0 (depth3 s at_start) 0 (omega arith)
    ∙ level-ended s 3 0 (depth2 s at_start) 0 (omega arith)
    ∙ level-ended s 2 0 (depth1 s) 0 (omega arith)
    ∙ nothing-after (run_of 1 0 (take (length s) s))
    ∙ ap (run_of 1 0) (take-length s)
