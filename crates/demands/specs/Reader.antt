-- Document 01's sentence on the reader, clause by clause, beside what states it.
-- Assumes nothing.
use Rattle.std.specs.Prelude.{◌≡◌, ℕ, length, replicate, None, Ok, Err}
use mathlib.Core.List.{List, map, Memᴰ}
use Rattle.refusals.specs.declared.Refusal.{Refusal}
use Rattle.fields.specs.Run.{Field, Fields, Refused, sheet_of}
use Rattle.walk.specs.Step.{start_walk}
use Rattle.walk.specs.Step.{step_of}
use Rattle.walk.specs.Walked.{InSheet, given_of}
use Rattle.walk.specs.Walked.{after, walked}
use Rattle.reader.specs.Fields.{field_at}

-- "A reader that walks a sheet field by field serves the programs:" `walked n s w` are the answers of n steps of a walk from w on, and `after n s w` is where they lead.
pub record Reader : Type 0 where
  -- "it gives the sheet's own refusal,"
  pub refused : (s : List ℕ) (f : Refusal) (p n : ℕ) → sheet_of s ≡ Refused f p → walked n s (start_walk s) ≡ replicate n (Err (f, p))
  -- "or each field by the order of its tag (a group before its inside) with place and depth,"
  pub fields : (s : List ℕ) (fs : List Field) → sheet_of s ≡ Fields fs → walked (length fs) s (start_walk s) ≡ map given_of fs
  pub content : (s : List ℕ) (fs : List Field) (f : Field) → sheet_of s ≡ Fields fs → Memᴰ f fs → InSheet s f
  -- "then the end." And the end for ever.
  pub end : (s : List ℕ) (fs : List Field) (n : ℕ) → sheet_of s ≡ Fields fs → walked n s (after (length fs) s (start_walk s)) ≡ replicate n (Ok None)
  -- and by its index the same
  pub by_index : (s : List ℕ) (n : ℕ) → (step_of s (after n s (start_walk s))).given ≡ field_at (sheet_of s) n
