-- A field added at the end of a legal sheet leaves a legal sheet, whose fields are the old ones, the new one, and what the new one holds inside.
-- Assumes nothing.
use Rattle.std.specs.Prelude.{◌≡◌, Bool, true, false, cond, List, map, ℕ, ◌+◌, ltb, length, take}
use Rattle.std.proofs.Common.{sym, ap, ◌∙◌, add-zero, arith}
use Rattle.std.proofs.Math.Bool.{or-true}
use Rattle.refusals.specs.declared.Refusal.{Refusal}
use Rattle.fields.specs.declared.FieldKind.{FieldKind}
use Rattle.fields.specs.Start.{is_leaf, depth_allowed}
use Rattle.fields.specs.Run.{Field, Fields, Refused, run_of, sheet_limit, sheet_of, inside_of}
use Rattle.fields.specs.Moved.{moved_field, moved}
use Rattle.fields.proofs.Moved.{run_moved}

-- every kind of field may stand at the top
pub at_top : (k : FieldKind) → depth_allowed k 1 ≡ true
at_top k = or-true (is_leaf k)

-- a sheet that has fields is a run of them, within the limit
pub top_run : (s : List ℕ) (fs : List Field) → sheet_of s ≡ Fields fs → run_of 1 0 s ≡ Fields fs
top_run s fs e = by (ltb sheet_limit (length s)) e
  where
    by : (far : Bool) → cond far (Refused Refusal.Oversize 0) (run_of 1 0 s) ≡ Fields fs → run_of 1 0 s ≡ Fields fs
    by true e = let z : ◌≡◌ {A = ℕ} 0 1 = cc in absurd (omega arith)
    by false e = e

module _ (s out : List ℕ) (fs : List Field) (end : ℕ) (legal : sheet_of s ≡ Fields fs) (stands : take (length s) out ≡ s) where
  -- a run that is legal inside a top group is legal there at the sheet's offsets
  pub inside-moved : (run : List ℕ) (gs : List Field) → inside_of run ≡ Fields gs → run_of 2 (length s + 3) run ≡ Fields (map (moved_field (length s + 3)) gs)
  inside-moved run gs e =
      ap (λ (p : ℕ). run_of 2 p run) (sym (add-zero (length s + 3))) ∙ run_moved (length s + 3) 2 0 run ∙ ap (moved (length s + 3)) e
