-- A legal run with another after it: the fields of the first, then what the second is.
-- Assumes nothing.
use Rattle.std.specs.Prelude.{◌≡◌, refl, List, [], ◌∷◌, ◌++◌, ℕ, zero, suc, ◌+◌, ◌*◌, ◌-◌, ◌≤◌, length, take, drop, Option, Some, None, Result, Ok, Err}
use Rattle.std.proofs.Common.{sym, ap, ap₂, subst, ◌∙◌, le_refl, add-zero, arith, length-append, length-drop}
use Rattle.std.proofs.lemmas.List.{take-append-le, drop-append-le}
use Rattle.fields.specs.declared.FieldKind.{FieldKind}
use Rattle.refusals.specs.declared.Refusal.{Refusal}
use Rattle.fields.specs.Start.{kind_of_tag, judged, start_of}
use Rattle.fields.specs.Run.{Field, Scan, Fields, Refused, ◌and_then◌, inside, step, run_of}
use Rattle.fields.proofs.Laws.{whole-field, end_empty, run_step}
use Rattle.fields.specs.AndThenLemmas.{nothing-first, regroup}
use Rattle.fields.specs.Append.{LegalRun, second_legal, judged_more, Joins}

-- a field stands at the start, whatever follows the run
pub start_more : (d : ℕ) (a b : List ℕ) (k : FieldKind) (n : ℕ) → start_of d a ≡ Ok (Some (k, n)) → start_of d (a ++ b) ≡ Ok (Some (k, n))
start_more d [] b k n e = let z : ◌≡◌ {A = ℕ} 0 1 = cc in absurd (omega arith)
start_more d (t ∷ []) b k n e = let z : ◌≡◌ {A = ℕ} 0 1 = cc in absurd (omega arith)
start_more d (t ∷ h ∷ []) b k n e = let z : ◌≡◌ {A = ℕ} 0 1 = cc in absurd (omega arith)
start_more d (t ∷ h ∷ l ∷ bs) b k n e =
    ap (λ (left : ℕ). judged (kind_of_tag t) (h * 256 + l) left d) (length-append bs b)
    ∙ judged_more (kind_of_tag t) (h * 256 + l) (length bs) (length b) d k n e

joins_empty : (d p : ℕ) (b : List ℕ) → Joins d p [] b
joins_empty d p b =
    sym (ap₂ ◌and_then◌ (run_step d p []) (ap (λ (q : ℕ). run_of d q b) (add-zero p)) ∙ nothing-first (run_of d p b))

-- one step, if the rest of the run joins
joins_step : (d p : ℕ) (a b : List ℕ) (s : Result (Option (FieldKind × ℕ)) Refusal) → start_of d a ≡ s → LegalRun (run_of d p a)
    → ((k : FieldKind) (n : ℕ) → 3 + n ≤ length a → LegalRun (run_of d (p + 3 + n) (drop (3 + n) a)) → Joins d (p + 3 + n) (drop (3 + n) a) b)
    → Joins d p a b
joins_step d p a b (Ok None) e legal rest = subst (λ (c : List ℕ). Joins d p c b) (sym (end_empty d a e)) (joins_empty d p b)
joins_step d p a b (Err f) e legal rest = absurd (subst LegalRun (run_step d p a ∙ ap (step run_of d p a) e) legal)
joins_step d p a b (Ok (Some (k, n))) e legal rest =
    let room : 3 + n ≤ length a = (whole-field d a k n e).room in
    let left : length (drop 3 a) ≡ length a - 3 = length-drop 3 a in
    let short : length (drop (3 + n) a) ≡ length a - (3 + n) = length-drop (3 + n) a in
    let content : take n (drop 3 (a ++ b)) ≡ take n (drop 3 a) =
    ap (take n) (drop-append-le 3 a b (omega arith)) ∙ take-append-le n (drop 3 a) b (omega arith) in
    let after : drop (3 + n) (a ++ b) ≡ drop (3 + n) a ++ b = drop-append-le (3 + n) a b room in
    let one : run_of d p a ≡ step run_of d p a (Ok (Some (k, n))) = run_step d p a ∙ ap (step run_of d p a) e in
    let f : Scan = Fields (record { place = p; depth = d; kind = k; content = take n (drop 3 a) } ∷ []) in
    let i : Scan = inside run_of k d p (take n (drop 3 a)) in
    let r : Scan = run_of d (p + 3 + n) (drop (3 + n) a) in
    let z : Scan = run_of d (p + length a) b in
    let end : p + 3 + n + length (drop (3 + n) a) ≡ p + length a = omega arith in
    run_step d p (a ++ b) ∙ ap (step run_of d p (a ++ b)) (start_more d a b k n e)
    ∙ ap₂ (λ (c t : List ℕ). Fields (record { place = p; depth = d; kind = k; content = c } ∷ []) and_then inside run_of k d p c and_then run_of d (p + 3 + n) t) content after
    ∙ ap (λ (t : Scan). f and_then i and_then t)
    (rest k n room (second_legal i r (second_legal f (i and_then r) (subst LegalRun one legal)))
    ∙ ap (λ (q : ℕ). r and_then run_of d q b) end)
    ∙ sym (ap (λ (x : Scan). x and_then z) one ∙ regroup f (i and_then r) z ∙ ap (λ (x : Scan). f and_then x) (regroup i r z))

-- by a bound on the first run's bytes
joins : (m d p : ℕ) (a b : List ℕ) → length a ≤ m → LegalRun (run_of d p a) → Joins d p a b
joins zero d p a b bound legal = joins_step d p a b (start_of d a) refl legal (λ k n room l. absurd (omega arith))
joins (suc m) d p a b bound legal =
    joins_step d p a b (start_of d a) refl legal
    (λ k n room l. joins m d (p + 3 + n) (drop (3 + n) a) b (let short : length (drop (3 + n) a) ≡ length a - (3 + n) = length-drop (3 + n) a in omega arith) l)

-- A legal run and another after it: the fields of the first, then the second at the offset where the first ends.
pub append : (d p : ℕ) (a b : List ℕ) (fs : List Field) → run_of d p a ≡ Fields fs → run_of d p (a ++ b) ≡ Fields fs and_then run_of d (p + length a) b
append d p a b fs e =
    joins (length a) d p a b (le_refl (length a)) (subst LegalRun (sym e) tt) ∙ ap (λ (x : Scan). x and_then run_of d (p + length a) b) e
