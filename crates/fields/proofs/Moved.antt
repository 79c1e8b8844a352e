-- The same run at another offset: the same fields with their places moved, or the same refusal with its offset moved.
-- Assumes nothing.
use Rattle.std.specs.Prelude.{◌≡◌, refl, List, [], ◌∷◌, ℕ, zero, suc, ◌+◌, length, take, drop, Option, Some, None, Result, Ok, Err}
use Rattle.std.proofs.Common.{sym, ap, ap₂, ◌∙◌, arith}
use Rattle.fields.specs.declared.FieldKind.{FieldKind}
use Rattle.refusals.specs.declared.Refusal.{Refusal}
use Rattle.fields.specs.Start.{start_of}
use Rattle.fields.specs.Run.{Field, Scan, Fields, Refused, ◌and_then◌, inside, step, scan, run_of}
use Rattle.fields.specs.Moved.{moved, moved_both}

module _ (m : ℕ) (run : ℕ → ℕ → List ℕ → Scan) (moves : (d p : ℕ) (bs : List ℕ) → run d (m + p) bs ≡ moved m (run d p bs)) where
  moved_inside : (k : FieldKind) (d p : ℕ) (c : List ℕ) → inside run k d (m + p) c ≡ moved m (inside run k d p c)
  moved_inside FieldKind.Word d p c = refl
  moved_inside FieldKind.Figure d p c = refl
  moved_inside FieldKind.Note d p c = refl
  moved_inside FieldKind.Group d p c = ap (λ (q : ℕ). run (suc d) q c) (omega arith) ∙ moves (suc d) (p + 3) c

  moved-step : (d p : ℕ) (bs : List ℕ) (s : Result (Option (FieldKind × ℕ)) Refusal) → step run d (m + p) bs s ≡ moved m (step run d p bs s)
  moved-step d p bs (Ok None) = refl
  moved-step d p bs (Err f) = refl
  moved-step d p bs (Ok (Some (k, n))) =
      let c : List ℕ = take n (drop 3 bs) in
      let f : Scan = Fields (record { place = p; depth = d; kind = k; content = c } ∷ []) in
      let rest : Scan = run d (p + 3 + n) (drop (3 + n) bs) in
      let at : m + p + 3 + n ≡ m + (p + 3 + n) = omega arith in
      ap₂ (λ (i r : Scan). moved m f and_then i and_then r)
      (moved_inside k d p c) (ap (λ (q : ℕ). run d q (drop (3 + n) bs)) at ∙ moves d (p + 3 + n) (drop (3 + n) bs))
      ∙ sym (moved_both m f (inside run k d p c and_then rest) ∙ ap (λ (x : Scan). moved m f and_then x) (moved_both m (inside run k d p c) rest))

scan-moved : (j m d p : ℕ) (bs : List ℕ) → scan j d (m + p) bs ≡ moved m (scan j d p bs)
unfolding scan
scan-moved zero m d p bs = refl
scan-moved (suc j) m d p bs = moved-step m (scan j) (scan-moved j m) d p bs (start_of d bs)

-- A run m bytes further on.
pub run_moved : (m d p : ℕ) (bs : List ℕ) → run_of d (m + p) bs ≡ moved m (run_of d p bs)
run_moved m d p bs = scan-moved (length bs) m d p bs
