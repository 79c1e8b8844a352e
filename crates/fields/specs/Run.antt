-- What a run of bytes is: all its fields in the order of their tags, a group before its inside, or the first refusal with the offset of its field's tag.
-- Assumes nothing.
use Rattle.std.specs.Prelude.{cond, List, [], ◌∷◌, ◌++◌, ℕ, zero, suc, ◌+◌, ltb, length, take, drop, Option, Some, None, Result, Ok, Err}
use Rattle.refusals.specs.declared.Refusal.{Refusal}
use Rattle.fields.specs.declared.FieldKind.{FieldKind}
use Rattle.fields.specs.Start.{is_leaf, start_of}

-- a field: the offset of its tag, its depth (top fields are at depth 1), what it holds, and its content
pub record Field : Type 0 where
  pub place : ℕ
  pub depth : ℕ
  pub kind : FieldKind
  pub content : List ℕ

-- all fields, or the first refusal with its offset
pub data Scan : Type 0 where
  Fields : List Field → Scan
  Refused : Refusal → ℕ → Scan

-- one run after another: the first refusal counts
infixr 20 ◌and_then◌
abbrev pub ◌and_then◌ : Scan → Scan → Scan
Fields fs and_then Fields gs = Fields (fs ++ gs)
Fields fs and_then Refused f p = Refused f p
Refused f p and_then s = Refused f p

-- what a field holds inside: a leaf nothing, a group its content as a run one deeper, which starts after the header's three bytes
abbrev pub inside : (ℕ → ℕ → List ℕ → Scan) → FieldKind → (depth place : ℕ) → List ℕ → Scan
inside run k d p c = cond (is_leaf k) (Fields []) (run (suc d) (p + 3) c)

-- one step: the field at the start of the run, its inside, then the rest of the run
abbrev pub step : (ℕ → ℕ → List ℕ → Scan) → (depth place : ℕ) → List ℕ → Result (Option (FieldKind × ℕ)) Refusal → Scan
step run d p bs (Ok None) = Fields []
step run d p bs (Err f) = Refused f p
step run d p bs (Ok (Some (k, n))) =
    Fields (record { place = p; depth = d; kind = k; content = take n (drop 3 bs) } ∷ [])
    and_then inside run k d p (take n (drop 3 bs))
    and_then run d (p + 3 + n) (drop (3 + n) bs)

-- as many steps as the first number allows
unfoldable pub scan : ℕ → (depth place : ℕ) → List ℕ → Scan
scan zero d p bs = Fields []
scan (suc k) d p bs = step (scan k) d p bs (start_of d bs)

-- a run of bytes at a depth, whose first byte has this offset (each step uses up three bytes at least, so as many steps as bytes are enough)
abbrev pub run_of : (depth place : ℕ) → List ℕ → Scan
run_of d p bs = scan (length bs) d p bs

-- the most bytes a sheet may have
abbrev pub sheet_limit : ℕ
sheet_limit = 32768

-- a sheet: refused 15 at 0 where it is too long, else the run of its top fields
abbrev pub sheet_of : List ℕ → Scan
sheet_of bs = cond (ltb sheet_limit (length bs)) (Refused Refusal.Oversize 0) (run_of 1 0 bs)

-- the inside of a group that is to be a top field, with offsets that count in the run itself
abbrev pub inside_of : List ℕ → Scan
inside_of bs = run_of 2 0 bs
