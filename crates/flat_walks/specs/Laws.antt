-- The numbers of a walk stand for it, so a walk from numbers to numbers gives what the walk gives; and a field that is given lies inside the sheet.
-- Assumes nothing.
use Rattle.std.specs.Prelude.{◌≡◌, refl, Bool, true, false, cond, List, [], ◌∷◌, ◌⊎◌, ℕ, zero, suc, ◌+◌, ◌≤◌, ◌<◌, eqb, length, take, drop, Option, Some, None, Result, Ok, Err}
use Rattle.std.proofs.Common.{inl, inr, ⊎_elim, arith}
use Rattle.refusals.specs.Numbers.{number_of, numbered}
use Rattle.walk.specs.declared.Position.{Position}
use Rattle.refusals.specs.declared.Refusal.{Refusal}
use Rattle.walk.specs.declared.FieldAt.{FieldAt}
use Rattle.fields.specs.declared.FieldKind.{FieldKind}
use Rattle.fields.proofs.Limits.{sheet_refusal}
use Rattle.fields.specs.Run.{Scan, Fields, Refused, sheet_of}
use Rattle.fields.specs.Start.{start_of}
use Rattle.walk.proofs.Stands.{advances}
use Rattle.walk.specs.Step.{walk_of, start_walk, given_at}
use Rattle.walk.specs.Step.{level_of, step_of}
use Rattle.flat_walks.specs.declared.FlatWalk.{FlatWalk}
use Rattle.flat_walks.specs.Walks.{sheet_refusals, walk_from, flat_field, stepped}

-- ---- numbers and back

-- a refusal that a sheet can have: 9 to 12, or 15
abbrev pub IsSheets : Refusal → Type 0
IsSheets f = ((9 ≤ number_of f) × (number_of f ≤ 12)) ⊎ (f ≡ Refusal.Oversize)

-- a walk over some sheet: its refusal, if it has one, is one that a sheet can have
abbrev pub OfSheet : Result Position (Refusal × ℕ) → Type 0
OfSheet (Ok w) = Unit {0}
OfSheet (Err (f, p)) = IsSheets f

pub nine_to_twelve : (f : Refusal) → 9 ≤ number_of f → number_of f ≤ 12 → numbered sheet_refusals (number_of f) ≡ Some f
nine_to_twelve Refusal.Parity h k = absurd (omega arith)
nine_to_twelve Refusal.Label h k = absurd (omega arith)
nine_to_twelve Refusal.ZeroBit h k = absurd (omega arith)
nine_to_twelve Refusal.Code h k = absurd (omega arith)
nine_to_twelve Refusal.Digit h k = absurd (omega arith)
nine_to_twelve Refusal.Value h k = absurd (omega arith)
nine_to_twelve Refusal.AngleParity h k = absurd (omega arith)
nine_to_twelve Refusal.Reach h k = absurd (omega arith)
nine_to_twelve Refusal.Truncated h k = refl
nine_to_twelve Refusal.Tag h k = refl
nine_to_twelve Refusal.Length h k = refl
nine_to_twelve Refusal.Depth h k = refl
nine_to_twelve Refusal.Room h k = absurd (omega arith)
nine_to_twelve Refusal.Sequence h k = absurd (omega arith)
nine_to_twelve Refusal.Oversize h k = absurd (omega arith)

-- ---- every walk is over a sheet: from the start of one, from any numbers, and after a step

pub start-of_sheet : (s : List ℕ) → OfSheet (start_walk s)
start-of_sheet s = by (sheet_of s) refl
  where
    by : (x : Scan) → sheet_of s ≡ x → OfSheet (walk_of x)
    by (Fields fs) e = tt
    by (Refused f p) e = ⊎_elim (λ a. inr a.1) (λ b. inl b.1.number) (sheet_refusal s f p e)

abbrev pub AllSheets : List Refusal → Type 0
AllSheets [] = Unit {0}
AllSheets (g ∷ gs) = IsSheets g × AllSheets gs

abbrev pub Found : Option Refusal → Type 0
Found (Some f) = IsSheets f
Found None = Unit {0}

pub found : (gs : List Refusal) (n : ℕ) → AllSheets gs → Found (numbered gs n)
found [] n h = tt
found (g ∷ gs) n h = by (eqb n (number_of g)) (found gs n h.1)
  where
    by : (b : Bool) → Found (numbered gs n) → Found (cond b (Some g) (numbered gs n))
    by true rest = h.0
    by false rest = rest

pub step-of_sheet : (s : List ℕ) (w : Result Position (Refusal × ℕ)) → OfSheet w → OfSheet (step_of s w).next
step-of_sheet s (Err (f, p)) h = h
step-of_sheet s (Ok w) h = by (start_of (level_of w (length s)).depth (drop w.place (take (level_of w (length s)).end s)))
  where
    by : (t : Result (Option (FieldKind × ℕ)) Refusal) → OfSheet (given_at w (level_of w (length s)).depth t).next
    by (Ok None) = tt
    by (Err f) = tt
    by (Ok (Some (k, n))) = tt

-- ---- many steps

-- the numbers after so many steps over a sheet
abbrev pub flat_after : ℕ → List ℕ → FlatWalk → FlatWalk
flat_after zero s w = w
flat_after (suc n) s w = flat_after n s (stepped s w).next

-- ---- inside the sheet

-- Whatever numbers are stepped from, a field that is given lies inside the sheet.
pub field_in_sheet : (s : List ℕ) (w : FlatWalk) → 0 < (stepped s w).field.tag → (stepped s w).field.place + 3 + (stepped s w).field.length ≤ length s
field_in_sheet s w h = by (step_of s (walk_from w)).given refl h
  where
    by : (g : Result (Option FieldAt) (Refusal × ℕ)) → (step_of s (walk_from w)).given ≡ g → 0 < (flat_field g).tag → (flat_field g).place + 3 + (flat_field g).length ≤ length s
    by (Ok (Some a)) e t = (advances s (walk_from w) a e).in_sheet
    by (Err (f, p)) e t = absurd (omega arith)
    by (Ok None) e t = absurd (omega arith)
