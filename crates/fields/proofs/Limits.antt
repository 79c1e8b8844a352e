-- What holds of every sheet: which refusals there are and where, and where its fields stand.
-- Assumes nothing.
use Rattle.std.specs.Prelude.{◌≡◌, refl, ◌⊎◌, Bool, true, false, List, [], ◌∷◌, ℕ, zero, suc, ◌+◌, ◌-◌, ◌≤◌, ◌<◌, ltb, length, take, drop, Option, Some, None, Result, Ok, Err}
use Rattle.std.proofs.Common.{sym, subst, ◌∙◌, inl, inr, ⊎_elim, arith, ltb-true, ltb-false, lt-ltb, le-ltb, length-drop, length-take-le}
use Rattle.refusals.specs.declared.Refusal.{Refusal}
use Rattle.fields.specs.declared.FieldKind.{FieldKind}
use Rattle.fields.specs.Start.{start_of}
use Rattle.fields.specs.Run.{Field, Scan, Fields, Refused, ◌and_then◌, inside, step, scan, run_of, sheet_of}
use Rattle.fields.specs.Laws.{StartView, WholeField}
use Rattle.fields.proofs.Laws.{start_view, whole-field}
use Rattle.fields.specs.Limits.{Placed, FieldRefusal, Every, Bounded, bounded_then, bounded_in, refused_start, nested, nothing, ◌also◌}

-- a run whose steps are bounded, for its first field, its inside and the rest
module _ (run : ℕ → ℕ → List ℕ → Scan) (shorter : (d p : ℕ) (bs : List ℕ) → d ≤ 4 → Bounded d p (length bs) (run d p bs)) (d p : ℕ) (bs : List ℕ) (top : d ≤ 4) where
  inside_bounded : (k : FieldKind) (n : ℕ) → WholeField d bs k n → Bounded d p (length bs) (inside run k d p (take n (drop 3 bs)))
  inside_bounded FieldKind.Word n here = nothing
  inside_bounded FieldKind.Figure n here = nothing
  inside_bounded FieldKind.Note n here = nothing
  inside_bounded FieldKind.Group n here =
      let deep : d < 4 = ltb-true d 4 here.deep in
      let room : 3 + n ≤ length bs = here.room in
      let left : length (drop 3 bs) ≡ length bs - 3 = length-drop 3 bs in
      let long : length (take n (drop 3 bs)) ≡ n = length-take-le n (drop 3 bs) (omega arith) in
      bounded_in d p (length bs) (suc d) (p + 3) (length (take n (drop 3 bs))) (run (suc d) (p + 3) (take n (drop 3 bs))) (omega arith) (omega arith) (omega arith)
      (shorter (suc d) (p + 3) (take n (drop 3 bs)) (omega arith))

  step_bounded : (s : Result (Option (FieldKind × ℕ)) Refusal) → StartView d bs s → start_of d bs ≡ s → Bounded d p (length bs) (step run d p bs s)
  step_bounded (Ok None) v e = nothing
  step_bounded (Err f) v e =
      let here = refused_start d bs f v in
      let some : 0 < length bs = here.2 in
      record { number = (here.0, here.1); offset = (omega arith, omega arith) }
  step_bounded (Ok (Some (k, n))) v e =
      let here = whole-field d bs k n e in
      let room : 3 + n ≤ length bs = here.room in
      let left : length (drop 3 bs) ≡ length bs - 3 = length-drop 3 bs in
      let long : length (take n (drop 3 bs)) ≡ n = length-take-le n (drop 3 bs) (omega arith) in
      let after : length (drop (3 + n) bs) ≡ length bs - (3 + n) = length-drop (3 + n) bs in
      bounded_then d p (length bs) (Fields (record { place = p; depth = d; kind = k; content = take n (drop 3 bs) } ∷ []))
      (inside run k d p (take n (drop 3 bs)) and_then run d (p + 3 + n) (drop (3 + n) bs))
      (record { first = omega arith; last = omega arith; deep = (omega arith, top) } also nothing)
      (bounded_then d p (length bs) (inside run k d p (take n (drop 3 bs))) (run d (p + 3 + n) (drop (3 + n) bs)) (inside_bounded k n here)
      (bounded_in d p (length bs) d (p + 3 + n) (length (drop (3 + n) bs)) (run d (p + 3 + n) (drop (3 + n) bs)) (omega arith) (omega arith) (omega arith)
      (shorter d (p + 3 + n) (drop (3 + n) bs) top)))

scan_bounded : (k d p : ℕ) (bs : List ℕ) → d ≤ 4 → Bounded d p (length bs) (scan k d p bs)
unfolding scan
scan_bounded zero d p bs top = nothing
scan_bounded (suc k) d p bs top = step_bounded (scan k) (scan_bounded k) d p bs top (start_of d bs) (start_view d bs) refl

-- Every field of a run stands in it, no deeper than 4; its refusal is 9, 10, 11 or 12, at one of its bytes.
pub run_bounded : (d p : ℕ) (bs : List ℕ) → d ≤ 4 → Bounded d p (length bs) (run_of d p bs)
run_bounded d p bs top = scan_bounded (length bs) d p bs top

-- A sheet above 32,768 bytes is refused 15 at 0, whatever else is wrong with it.
pub longer : (bs : List ℕ) → 32768 < length bs → sheet_of bs ≡ Refused Refusal.Oversize 0
longer bs h = rw (lt-ltb _ _ h)

-- Every other sheet is the run of its top fields, at depth 1, and its bytes are counted from 0.
pub not_longer : (bs : List ℕ) → length bs ≤ 32768 → sheet_of bs ≡ run_of 1 0 bs
not_longer bs h = rw (le-ltb _ _ h)

-- The fields of a legal sheet stand in it, at depths 1 to 4.
pub sheet_fields : (bs : List ℕ) (fs : List Field) → sheet_of bs ≡ Fields fs → Every (Placed 1 0 (length bs)) fs
sheet_fields bs fs e = by (ltb 32768 (length bs)) refl
  where
    by : (b : Bool) → ltb 32768 (length bs) ≡ b → Every (Placed 1 0 (length bs)) fs
    by true eb = let bad : Refused Refusal.Oversize 0 ≡ Fields fs = sym (longer bs (ltb-true _ _ eb)) ∙ e in let z : ◌≡◌ {A = ℕ} 0 1 = cc in absurd (omega arith)
    by false eb =
        subst (Bounded 1 0 (length bs)) (sym (not_longer bs (ltb-false _ _ eb)) ∙ e) (run_bounded 1 0 bs (omega arith))

-- A sheet's refusal is 15 at 0 where it is too long, and else 9, 10, 11 or 12 at one of its bytes.
pub sheet_refusal : (bs : List ℕ) (f : Refusal) (p : ℕ) → sheet_of bs ≡ Refused f p
    → ((32768 < length bs) × (f ≡ Refusal.Oversize) × (p ≡ 0)) ⊎ ((length bs ≤ 32768) × FieldRefusal 0 (length bs) f p)
sheet_refusal bs f p e = by (ltb 32768 (length bs)) refl
  where
    by : (b : Bool) → ltb 32768 (length bs) ≡ b
        → ((32768 < length bs) × (f ≡ Refusal.Oversize) × (p ≡ 0)) ⊎ ((length bs ≤ 32768) × FieldRefusal 0 (length bs) f p)
    by true eb =
        let long : 32768 < length bs = ltb-true _ _ eb in
        let same : Refused Refusal.Oversize 0 ≡ Refused f p = sym (longer bs long) ∙ e in
        inl (long, cc, cc)
    by false eb =
        let short : length bs ≤ 32768 = ltb-false _ _ eb in
        inr (short, subst (Bounded 1 0 (length bs)) (sym (not_longer bs short) ∙ e) (run_bounded 1 0 bs (omega arith)))

-- A refusal's offset is that of a byte of the sheet.
pub offset-inside : (bs : List ℕ) (f : Refusal) (p : ℕ) → sheet_of bs ≡ Refused f p → p < length bs
offset-inside bs f p e = ⊎_elim (λ a. omega (arith, a.0, a.2)) (λ b. omega (arith, b.1.offset.1)) (sheet_refusal bs f p e)

-- Inside them, at depth 4, a note is legal; a group's field comes before the fields that it holds.
pub note-at_depth_4 : sheet_of (nested 0x12 0)
    ≡ Fields
    (record { place = 0; depth = 1; kind = FieldKind.Group; content = 0x20 ∷ 0 ∷ 6 ∷ 0x20 ∷ 0 ∷ 3 ∷ 0x12 ∷ 0 ∷ 0 ∷ [] }
    ∷ record { place = 3; depth = 2; kind = FieldKind.Group; content = 0x20 ∷ 0 ∷ 3 ∷ 0x12 ∷ 0 ∷ 0 ∷ [] }
    ∷ record { place = 6; depth = 3; kind = FieldKind.Group; content = 0x12 ∷ 0 ∷ 0 ∷ [] }
    ∷ record { place = 9; depth = 4; kind = FieldKind.Note; content = [] }
    ∷ [])
unfolding scan
note-at_depth_4 = refl
