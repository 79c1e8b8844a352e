-- The check of a run from a place on is the check of the field there, and then of the run from the place after it.
-- Assumes nothing.
use Rattle.std.specs.Prelude.{◌≡◌, refl, List, [], ◌∷◌, ℕ, suc, ◌+◌, ◌-◌, ◌≤◌, ◌<◌, length, take, drop, Result, Ok, Err, Option, Some, None}
use Rattle.std.proofs.Common.{sym, ap, ap₂, ◌∙◌, arith, length-drop, drop-drop, length-take-le, ltb-true}
use Rattle.fields.specs.declared.FieldKind.{FieldKind}
use Rattle.fields.specs.Start.{depth_allowed, start_of}
use Rattle.fields.specs.Run.{Field, Scan, Fields, Refused, ◌and_then◌, inside, step, run_of}
use Rattle.fields.proofs.Laws.{whole-field, run_step}
use Rattle.refusals.specs.declared.Refusal.{Refusal}
use Rattle.sheet.specs.Checked.{checked_of, after_inside, field_from, field_of}

-- a field's check, then the rest's
abbrev pub go_on : (ℕ → Result Unit (Refusal × ℕ)) → Result (Option ℕ) (Refusal × ℕ) → Result Unit (Refusal × ℕ)
go_on rest (Ok None) = Ok tt
go_on rest (Ok (Some n)) = rest n
go_on rest (Err r) = Err r

-- of a field, its inside and the rest, the first refusal counts
in_order : (rest : ℕ → Result Unit (Refusal × ℕ)) (f : Field) (i r : Scan) (next : ℕ) → checked_of r ≡ rest next
    → checked_of (Fields (f ∷ []) and_then i and_then r) ≡ go_on rest (after_inside (checked_of i) next)
in_order rest f (Refused g p) r next e = refl
in_order rest f (Fields gs) (Fields hs) next e = e
in_order rest f (Fields gs) (Refused g p) next e = e

-- what the check of a run says from a place on
abbrev pub rest_of : (depth offset : ℕ) → List ℕ → (at : ℕ) → Result Unit (Refusal × ℕ)
rest_of d o run at = checked_of (run_of d (o + at) (drop at run))

pub rest_all : (d o : ℕ) (run : List ℕ) → rest_of d o run 0 ≡ checked_of (run_of d o run)
rest_all d o run = let none : o + 0 ≡ o = omega arith in ap (λ (p : ℕ). checked_of (run_of d p run)) none

module _ (d o at : ℕ) (run : List ℕ) where
  by_start : (s : Result (Option (FieldKind × ℕ)) Refusal) → checked_of (step run_of d (o + at) (drop at run) s) ≡ go_on (rest_of d o run) (field_from d o at run s)
  by_start (Ok None) = refl
  by_start (Err f) = refl
  by_start (Ok (Some (k, n))) =
      in_order (rest_of d o run) _ (inside run_of k d (o + at) (take n (drop 3 (drop at run)))) _ (at + 3 + n)
      (ap₂ (λ (p : ℕ) (bs : List ℕ). checked_of (run_of d p bs)) place bytes)
    where
      place : o + at + 3 + n ≡ o + (at + 3 + n)
      place = omega arith

      sum : at + (3 + n) ≡ at + 3 + n
      sum = omega arith

      bytes : drop (3 + n) (drop at run) ≡ drop (at + 3 + n) run
      bytes = drop-drop (3 + n) at run ∙ ap (λ (j : ℕ). drop j run) sum

  pub rest_step : rest_of d o run at ≡ go_on (rest_of d o run) (field_of d o at run)
  rest_step = ap checked_of (run_step d (o + at) (drop at run)) ∙ by_start (start_of d (drop at run))

  -- a field that ends has three bytes at least, and ends in the run
  pub next-inside : (m : ℕ) → field_of d o at run ≡ Ok (Some m) → (at + 3 ≤ m) × (m ≤ length run)
  next-inside m e = by (start_of d (drop at run)) refl e
    where
      by : (s : Result (Option (FieldKind × ℕ)) Refusal) → start_of d (drop at run) ≡ s → field_from d o at run s ≡ Ok (Some m) → (at + 3 ≤ m) × (m ≤ length run)
      by (Ok None) es e = let z : ◌≡◌ {A = ℕ} 0 1 = cc in absurd (omega arith)
      by (Err f) es e = let z : ◌≡◌ {A = ℕ} 0 1 = cc in absurd (omega arith)
      by (Ok (Some (k, n))) es e = within (checked_of (inside run_of k d (o + at) (take n (drop 3 (drop at run))))) e
        where
          within : (i : Result Unit (Refusal × ℕ)) → after_inside i (at + 3 + n) ≡ Ok (Some m) → (at + 3 ≤ m) × (m ≤ length run)
          within (Err (f, p)) e = let z : ◌≡◌ {A = ℕ} 0 1 = cc in absurd (omega arith)
          within (Ok tt) e =
              let here : at + 3 + n ≡ m = cc in
              let room : 3 + n ≤ length (drop at run) = (whole-field d (drop at run) k n es).room in
              let left : length (drop at run) ≡ length run - at = length-drop at run in
              (omega arith, omega arith)

  -- one turn: what the rest says, by the field's check
  pub turn : (whole : Result Unit (Refusal × ℕ)) (s : Result (Option ℕ) (Refusal × ℕ)) → rest_of d o run at ≡ whole → field_of d o at run ≡ s → go_on (rest_of d o run) s ≡ whole
  turn whole s rest e = ap (go_on (rest_of d o run)) (sym e) ∙ sym rest_step ∙ rest

  -- the field's check, by what stands at the place
  pub field_at : (s : Result (Option (FieldKind × ℕ)) Refusal) → start_of d (drop at run) ≡ s → field_from d o at run s ≡ field_of d o at run
  field_at s e = ap (field_from d o at run) (sym e)

  pub kind_at_lem : {n : ℕ} {k : FieldKind} (j : FieldKind) → start_of d (drop at run) ≡ Ok (Some (k, n)) → k ≡ j → field_from d o at run (Ok (Some (j, n))) ≡ field_of d o at run
  kind_at_lem {n} {k} j e same = field_at (Ok (Some (j, n))) (e ∙ ap (λ (i : FieldKind). Ok (Some (i, n))) same)

-- the content of a field at a place, as a part of the run
abbrev pub content_at : (at n : ℕ) → List ℕ → List ℕ
content_at at n run = take (at + 3 + n - (at + 3)) (drop (at + 3) run)

-- a field that stands at a place ends in the run, and its content is as long as it says
pub record StandsAt (at n : ℕ) (run : List ℕ) : Type 0 where
  pub end : at + 3 + n ≤ length run
  pub long : length (content_at at n run) ≡ n

pub stands_at : (d at : ℕ) (k : FieldKind) (n : ℕ) (run : List ℕ) → start_of d (drop at run) ≡ Ok (Some (k, n)) → StandsAt at n run
stands_at d at k n run e =
    let room : 3 + n ≤ length (drop at run) = (whole-field d (drop at run) k n e).room in
    let left : length (drop at run) ≡ length run - at = length-drop at run in
    let end : at + 3 + n ≤ length run = omega arith in
    let size : at + 3 + n - (at + 3) ≡ n = omega arith in
    let after : length (drop (at + 3) run) ≡ length run - (at + 3) = length-drop (at + 3) run in
    record { end = end; long = length-take-le (at + 3 + n - (at + 3)) (drop (at + 3) run) (omega arith) ∙ size }

-- a group stands above depth 4, and its check is that of its content one deeper, whose first byte lies three bytes after the tag
module _ (d at n : ℕ) (run : List ℕ) {k : FieldKind} (e : start_of d (drop at run) ≡ Ok (Some (k, n))) (group : k ≡ FieldKind.Group) where
  pub group_depth : d < 4
  group_depth = ltb-true d 4 (ap (λ (i : FieldKind). depth_allowed i d) (sym group) ∙ (whole-field d (drop at run) k n e).deep)

  pub group_field : (o deeper : ℕ) → deeper ≡ suc d → after_inside (checked_of (run_of deeper (o + at + 3) (content_at at n run))) (at + 3 + n) ≡ field_of d o at run
  group_field o deeper one =
      ap (λ (i : Result Unit (Refusal × ℕ)). after_inside i (at + 3 + n)) (ap₂ (λ (e : ℕ) (bs : List ℕ). checked_of (run_of e (o + at + 3) bs)) one bytes)
      ∙ kind_at_lem d o at run FieldKind.Group e group
    where
      size : at + 3 + n - (at + 3) ≡ n
      size = omega arith

      bytes : content_at at n run ≡ take n (drop 3 (drop at run))
      bytes = ap₂ (λ (m : ℕ) (bs : List ℕ). take m bs) size (sym (drop-drop 3 at run))
