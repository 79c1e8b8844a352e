-- What is left of a walk: the fields still to come, and how a step tells of them.
-- Assumes nothing.
use Rattle.std.specs.Prelude.{◌≡◌, refl, Bool, true, false, cond, ltb, Result, Ok, Err, Option, Some, None}
use Rattle.std.proofs.Common.{sym, ◌∙◌, le_refl, ltb-true, ltb-false, length-take, length-drop, drop-drop}
use Rattle.std.proofs.Math.Path.{ap, ap₂}
use mathlib.Core.List.{List, [], ◌∷◌}
use Prim.Native.Nat.{ℕ, suc, ◌+◌, ◌-◌, ◌≤◌, ◌<◌, min, max}
use native.Mathlib.Omega.{arith}
use Rattle.std.proofs.Math.ListN.{length, take, drop}
use Rattle.refusals.specs.declared.Refusal.{Refusal}
use Rattle.fields.specs.declared.FieldKind.{FieldKind}
use Rattle.fields.specs.Start.{start_of}
use Rattle.fields.specs.Run.{Field, Scan, Fields, Refused, ◌and_then◌, inside, step, run_of, sheet_limit, sheet_of}
use Rattle.fields.proofs.Laws.{run_step, whole-field, end_empty}
use Rattle.fields.proofs.Limits.{not_longer}
use Rattle.fields.specs.AndThenLemmas.{nothing-first, regroup}
use Rattle.walk.specs.declared.Position.{Position}
use Rattle.walk.specs.Step.{at_start, walk_of, start_walk, level_by, entered, passed, next_of, given_at, step_at, step_of}
use Rattle.walk.specs.WithinLemmas.{drop-take}
use Rattle.walk.proofs.WithinLemmas.{within}
use Rattle.walk.specs.Rest.{level, depth1, depth2, depth3, remaining, rest_of, field_of, told, level-ended, level_past, level-refused, level-inside, whole}

module _ (s : List ℕ) (d e : ℕ) (after : ℕ → Scan) (p : ℕ) where
  -- a field, its inside, and the rest of the run after it
  level-field : (k : FieldKind) (n : ℕ) → start_of d (drop p (take e s)) ≡ Ok (Some (k, n))
      → level s d e after p
      ≡ Fields (field_of s (record { place = p; depth = d; kind = k; length = n }) ∷ [])
      and_then (inside run_of k d p (drop (p + 3) (take (p + 3 + n) s)) and_then level s d e after (p + 3 + n))
  unfolding level
  level-field k n h =
      let w = within d p e s k n h in
      let enclosed : p + 3 + n ≤ e = w.enclosed in
      let in_sheet : p + 3 + n ≤ length s = w.in_sheet in
      let ends : max p e ≡ max (p + 3 + n) e = omega arith in
      let far : p + (3 + n) ≡ p + 3 + n = omega arith in
      let near : p + 3 ≤ length s = omega arith in
      let bs = drop p (take e s) in
      let raw = take n (drop 3 bs) in
      let field = Fields (record { place = p; depth = d; kind = k; content = raw } ∷ []) in
      let within = inside run_of k d p raw in
      let rest = run_of d (p + 3 + n) (drop (3 + n) bs) in
      ap (λ (r : Scan). r and_then after (max p e)) (run_step d p bs ∙ ap (step run_of d p bs) h)
      ∙ regroup field (within and_then rest) (after (max p e))
      ∙ ap (λ (r : Scan). field and_then r) (regroup within rest (after (max p e)))
      ∙ ap₂ (λ (c : List ℕ) (r : Scan). Fields (record { place = p; depth = d; kind = k; content = c } ∷ []) and_then r)
      (w.content ∙ drop-take (p + 3) n s near)
      (ap₂ (λ (c bs : List ℕ). inside run_of k d p c and_then (run_of d (p + 3 + n) bs and_then after (max p e)))
      w.content (drop-drop (3 + n) p (take e s) ∙ ap (λ (q : ℕ). drop q (take e s)) far)
      ∙ ap (λ (q : ℕ). inside run_of k d p (drop (p + 3) (take (p + 3 + n) s)) and_then (run_of d (p + 3 + n) (drop (p + 3 + n) (take e s)) and_then after q)) ends)

-- from a place past the sheet nothing is left
past_all : (s : List ℕ) (w : Position) → length s ≤ w.place → remaining s w ≡ Fields []
past_all s w h =
    level_past s 4 w.end3 (depth3 s w) w.place h
    ∙ level_past s 3 w.end2 (depth2 s w) (max w.place w.end3) (omega arith)
    ∙ level_past s 2 w.end1 (depth1 s) (max (max w.place w.end3) w.end2) (omega arith)
    ∙ level_past s 1 (length s) (λ (p : ℕ). Fields []) (max (max (max w.place w.end3) w.end2) w.end1) (omega arith)

module _ (s : List ℕ) (w : Position) (d e : ℕ) (after : ℕ → Scan)
    (past : (q : ℕ) → w.place ≤ q → remaining s (passed w q) ≡ level s d e after q)
    (into : d < 4 → (q end : ℕ) → w.place ≤ q → remaining s (entered w d q end) ≡ level s (suc d) end (level s d e after) q)
    (more : min e (length s) ≤ w.place → length s ≤ w.place)
  where
    at_level : (t : Result (Option (FieldKind × ℕ)) Refusal) → start_of d (drop w.place (take e s)) ≡ t → remaining s w ≡ told s (given_at w d t).given (given_at w d t).next
    at_level (Ok None) h =
        let none : length (drop w.place (take e s)) ≡ 0 = ap length (end_empty d (drop w.place (take e s)) h) in
        let left : length (drop w.place (take e s)) ≡ length (take e s) - w.place = length-drop w.place (take e s) in
        let part : length (take e s) ≡ min e (length s) = length-take e s in
        past_all s w (more (omega arith))
    at_level (Err f) h = past w.place (le_refl _) ∙ level-refused s d e after w.place f h
    at_level (Ok (Some (k, n))) h = past w.place (le_refl _) ∙ level-field s d e after w.place k n h ∙ ap (λ (r : Scan). Fields (field_of s (record { place = w.place; depth = d; kind = k; length = n }) ∷ []) and_then r) (follows k h)
      where
        follows : (j : FieldKind) → start_of d (drop w.place (take e s)) ≡ Ok (Some (j, n))
            → inside run_of j d w.place (drop (w.place + 3) (take (w.place + 3 + n) s)) and_then level s d e after (w.place + 3 + n)
            ≡ remaining s (next_of w d j (w.place + 3) (w.place + 3 + n))
        follows FieldKind.Word g = nothing-first _ ∙ sym (past (w.place + 3 + n) (omega arith))
        follows FieldKind.Figure g = nothing-first _ ∙ sym (past (w.place + 3 + n) (omega arith))
        follows FieldKind.Note g = nothing-first _ ∙ sym (past (w.place + 3 + n) (omega arith))
        follows FieldKind.Group g =
            level-inside s d e after w.place n
            ∙ sym (into (ltb-true d 4 (whole-field d (drop w.place (take e s)) FieldKind.Group n g).deep) (w.place + 3) (w.place + 3 + n) (omega arith))

-- What is left of a walk is what its step gives, then what is left after that.
pub step_rest : (s : List ℕ) (w : Result Position (Refusal × ℕ)) → rest_of s w ≡ told s (step_of s w).given (step_of s w).next
step_rest s (Err (f, p)) = refl
step_rest s (Ok w) = by (ltb w.place w.end3) refl (ltb w.place w.end2) refl (ltb w.place w.end1) refl
  where
    by : (a : Bool) → ltb w.place w.end3 ≡ a → (b : Bool) → ltb w.place w.end2 ≡ b → (c : Bool) → ltb w.place w.end1 ≡ c
        → remaining s w ≡ told s (step_at s w (level_by a b c w (length s))).given (step_at s w (level_by a b c w (length s))).next
    by true ea b eb c ec =
        let open3 : w.place < w.end3 = ltb-true w.place w.end3 ea in
        at_level s w 4 w.end3 (depth3 s w) (λ q h. refl) (λ deep q end h. absurd (omega arith)) (λ h. omega arith) _ refl
    by false ea true eb c ec =
        let past3 : w.end3 ≤ w.place = ltb-false w.place w.end3 ea in
        let open2 : w.place < w.end2 = ltb-true w.place w.end2 eb in
        at_level s w 3 w.end2 (depth2 s w) (λ q h. level-ended s 4 w.end3 (depth3 s w) q (omega arith)) (λ deep q end h. refl) (λ h. omega arith) _ refl
    by false ea false eb true ec =
        let past3 : w.end3 ≤ w.place = ltb-false w.place w.end3 ea in
        let past2 : w.end2 ≤ w.place = ltb-false w.place w.end2 eb in
        let open1 : w.place < w.end1 = ltb-true w.place w.end1 ec in
        at_level s w 2 w.end1 (depth1 s)
        (λ q h. level-ended s 4 w.end3 (depth3 s w) q (omega arith) ∙ level-ended s 3 w.end2 (depth2 s w) q (omega arith))
        (λ deep q end h. level-ended s 4 w.end3 (level s 3 end (depth2 s w)) q (omega arith)) (λ h. omega arith) _ refl
    by false ea false eb false ec =
        let past3 : w.end3 ≤ w.place = ltb-false w.place w.end3 ea in
        let past2 : w.end2 ≤ w.place = ltb-false w.place w.end2 eb in
        let past1 : w.end1 ≤ w.place = ltb-false w.place w.end1 ec in
        at_level s w 1 (length s) (λ (p : ℕ). Fields [])
        (λ q h. level-ended s 4 w.end3 (depth3 s w) q (omega arith)
        ∙ level-ended s 3 w.end2 (depth2 s w) q (omega arith)
        ∙ level-ended s 2 w.end1 (depth1 s) q (omega arith))
        (λ deep q end h. level-ended s 4 w.end3 (level s 3 w.end2 (level s 2 end (depth1 s))) q (omega arith)
        ∙ level-ended s 3 w.end2 (level s 2 end (depth1 s)) q (omega arith)) (λ h. omega arith) _ refl

-- From its first byte a sheet that is not too long is left, be it legal or not.
pub first_rest : (s : List ℕ) → length s ≤ 32768 → rest_of s (Ok at_start) ≡ sheet_of s
first_rest s h = whole s ∙ sym (not_longer s h)

-- From its start the whole sheet is left.
pub start_rest : (s : List ℕ) → rest_of s (start_walk s) ≡ sheet_of s
start_rest s = by (ltb sheet_limit (length s))
  where
    from : (r : Scan) → run_of 1 0 s ≡ r → rest_of s (walk_of r) ≡ r
    from (Fields fs) e = whole s ∙ e
    from (Refused f p) e = refl

    by : (b : Bool) → rest_of s (walk_of (cond b (Refused Refusal.Oversize 0) (run_of 1 0 s))) ≡ cond b (Refused Refusal.Oversize 0) (run_of 1 0 s)
    by true = refl
    by false = from (run_of 1 0 s) refl
