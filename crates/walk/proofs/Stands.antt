-- For whoever goes through a walk in a loop: what is still ahead of a walk, and what each answer of a step says of it.
-- Assumes nothing.
use Rattle.std.specs.Prelude.{◌≡◌, refl, Bool, true, false, cond, List, [], ◌∷◌, ℕ, ◌+◌, ◌-◌, ◌≤◌, ◌<◌, eqb, length, take, drop, Result, Ok, Err, Option, Some, None}
use Rattle.std.proofs.Common.{sym, ap, ◌∙◌, arith, length-drop, length-take-le}
use Rattle.refusals.specs.declared.Refusal.{Refusal}
use Rattle.fields.specs.declared.FieldKind.{FieldKind}
use Rattle.fields.specs.Start.{start_of}
use Rattle.fields.specs.Run.{Field, Scan, Fields, Refused, ◌and_then◌, sheet_of}
use Rattle.walk.specs.declared.Position.{Position}
use Rattle.walk.specs.declared.FieldAt.{FieldAt}
use Rattle.walk.specs.Step.{walk_of, start_walk, level_of, entered, next_of, given_at, step_of}
use Rattle.walk.proofs.WithinLemmas.{within}
use Rattle.walk.specs.Rest.{rest_of, field_of, told}
use Rattle.walk.proofs.Rest.{step_rest, start_rest}
use Rattle.walk.specs.Stands.{Stands, left, Advances, Gives}

-- At the start the whole sheet is ahead.
pub start_stands : (s : List ℕ) → Stands s (start_walk s) (sheet_of s)
start_stands s = record { rest = start_rest s; refused = λ f p e. ap walk_of e }

entered_place : (w : Position) (d from end : ℕ) → (entered w d from end).place ≡ from
entered_place w d from end = by (eqb d 1) (eqb d 2)
  where
    by : (a b : Bool)
        → let next : Position = cond a (record { place = from; end1 = end; end2 = w.end2; end3 = w.end3 })
        (cond b (record { place = from; end1 = w.end1; end2 = end; end3 = w.end3 }) (record { place = from; end1 = w.end1; end2 = w.end2; end3 = end })) in
        next.place ≡ from
    by true b = refl
    by false true = refl
    by false false = refl

next_place : (w : Position) (d n : ℕ) (k : FieldKind) → w.place < (next_of w d k (w.place + 3) (w.place + 3 + n)).place
next_place w d n FieldKind.Word = omega arith
next_place w d n FieldKind.Figure = omega arith
next_place w d n FieldKind.Note = omega arith
next_place w d n FieldKind.Group =
    let into : (entered w d (w.place + 3) (w.place + 3 + n)).place ≡ w.place + 3 = entered_place w d (w.place + 3) (w.place + 3 + n) in
    omega arith

at_advances : (s : List ℕ) (w : Position) (d e : ℕ) (t : Result (Option (FieldKind × ℕ)) Refusal) (a : FieldAt) → start_of d (drop w.place (take e s)) ≡ t → (given_at w d t).given ≡ Ok (Some a)
    → (left s (Ok w) ≡ length s - a.place) × (a.place + 3 + a.length ≤ length s) × (left s (given_at w d t).next < left s (Ok w))
at_advances s w d e (Ok None) a h g = let z : ◌≡◌ {A = ℕ} 0 1 = cc in absurd (omega arith)
at_advances s w d e (Err f) a h g = let z : ◌≡◌ {A = ℕ} 0 1 = cc in absurd (omega arith)
at_advances s w d e (Ok (Some (k, n))) a h g =
    let in_sheet : w.place + 3 + n ≤ length s = (within d w.place e s k n h).in_sheet in
    let same : ◌≡◌ {A = FieldAt} (record { place = w.place; depth = d; kind = k; length = n }) a = cc in
    let place : w.place ≡ a.place = ap (λ (x : FieldAt). x.place) same in
    let long : n ≡ a.length = ap (λ (x : FieldAt). x.length) same in
    let later : w.place < (next_of w d k (w.place + 3) (w.place + 3 + n)).place = next_place w d n k in
    (ap (λ (p : ℕ). length s - p) place, omega arith, omega arith)

pub advances : (s : List ℕ) (w : Result Position (Refusal × ℕ)) (a : FieldAt) → (step_of s w).given ≡ Ok (Some a) → Advances s w a
advances s (Err (f, p)) a g = let z : ◌≡◌ {A = ℕ} 0 1 = cc in absurd (omega arith)
advances s (Ok w) a g =
    let l = level_of w (length s) in
    let both = at_advances s w l.depth l.end (start_of l.depth (drop w.place (take l.end s))) a refl g in
    record { here = both.0; in_sheet = both.1; less = both.2 }

-- its content is as long as the step says
pub content-length : (s : List ℕ) (w : Result Position (Refusal × ℕ)) (a : FieldAt) → (step_of s w).given ≡ Ok (Some a) → length (field_of s a).content ≡ a.length
content-length s w a g =
    let in_sheet : a.place + 3 + a.length ≤ length s = (advances s w a g).in_sheet in
    let after-header : length (drop (a.place + 3) s) ≡ length s - (a.place + 3) = length-drop (a.place + 3) s in
    length-take-le a.length (drop (a.place + 3) s) (omega arith)

module _ (s : List ℕ) (w : Result Position (Refusal × ℕ)) (r : Scan) (h : Stands s w r) where
  answer : (g : Result (Option FieldAt) (Refusal × ℕ)) → (step_of s w).given ≡ g → r ≡ told s g (step_of s w).next
  answer g e = sym h.rest ∙ step_rest s w ∙ ap (λ (x : Result (Option FieldAt) (Refusal × ℕ)). told s x (step_of s w).next) e

  pub step_stands : (a : FieldAt) → (step_of s w).given ≡ Ok (Some a) → Gives s w a r
  step_stands a e = by (rest_of s (step_of s w).next) refl (answer (Ok (Some a)) e)
    where
      by : (q : Scan) → rest_of s (step_of s w).next ≡ q → r ≡ Fields (field_of s a ∷ []) and_then q → Gives s w a r
      by (Fields fs) k m =
          record { later = fs; first = m; next = record { rest = k; refused = λ f p z. let no : ◌≡◌ {A = ℕ} 0 1 = cc in absurd (omega arith) } }
      by (Refused f p) k m =
          let told-refusal : (step_of s w).given ≡ Err (f, p) = ap (λ (v : Result Position (Refusal × ℕ)). (step_of s v).given) (h.refused f p m) in
          let z : ◌≡◌ {A = ℕ} 0 1 = cc in absurd (omega arith)

  -- The end is given where no field is ahead.
  pub step_ends : (step_of s w).given ≡ (Ok None) → r ≡ Fields []
  step_ends e = answer (Ok None) e

  -- A refusal is given where it is the sheet's.
  pub step-refused : (f : Refusal) (p : ℕ) → (step_of s w).given ≡ Err (f, p) → r ≡ Refused f p
  step-refused f p e = answer (Err (f, p)) e
