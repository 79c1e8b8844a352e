-- The laws of a run of bytes that others cite: what its start says, and one step without the number of steps.
-- Assumes nothing.
use Rattle.std.specs.Prelude.{◌≡◌, refl, Bool, true, false, cond, List, [], ◌∷◌, ℕ, zero, suc, ◌+◌, ◌*◌, ◌-◌, ◌≤◌, ltb, length, take, drop, Option, Some, None, Result, Ok, Err}
use Rattle.std.proofs.Common.{ap₂, subst, arith, ltb-false, le_refl, length-drop, length-take-le}
use Rattle.refusals.specs.declared.Refusal.{Refusal}
use Rattle.fields.specs.declared.FieldKind.{FieldKind}
use Rattle.fields.specs.Start.{kind_of_tag, length_allowed, depth_allowed, judged, start_of}
use Rattle.fields.specs.Run.{Scan, Fields, ◌and_then◌, inside, step, scan, run_of}
use Rattle.fields.specs.Laws.{StartView, WholeField, at_end, refused, header}

pub start_view : (d : ℕ) (bs : List ℕ) → StartView d bs (start_of d bs)
start_view d [] = at_end
start_view d (t ∷ []) = refused Refusal.Truncated (t ∷ []) (omega arith, omega arith) (omega arith)
start_view d (t ∷ h ∷ []) = refused Refusal.Truncated (t ∷ h ∷ []) (omega arith, omega arith) (omega arith)
start_view d (t ∷ h ∷ l ∷ w) = by (kind_of_tag t) refl
  where
    known : (k : FieldKind) → kind_of_tag t ≡ Some k
        → (a : Bool) → ltb (length w) (h * 256 + l) ≡ a → (b : Bool) → length_allowed k (h * 256 + l) ≡ b → (c : Bool) → depth_allowed k d ≡ c
        → StartView d (t ∷ h ∷ l ∷ w)
        (cond {A = Result (Option (FieldKind × ℕ)) Refusal} a (Err Refusal.Truncated) (cond b (cond c (Ok (Some (k, h * 256 + l))) (Err Refusal.Depth)) (Err Refusal.Length)))
    known k e true ea b eb c ec = refused Refusal.Truncated (t ∷ h ∷ l ∷ w) (omega arith, omega arith) (omega arith)
    known k e false ea false eb c ec = refused Refusal.Length (t ∷ h ∷ l ∷ w) (omega arith, omega arith) (omega arith)
    known k e false ea true eb false ec = refused Refusal.Depth (t ∷ h ∷ l ∷ w) (omega arith, omega arith) (omega arith)
    known k e false ea true eb true ec = header t h l w k e (ltb-false _ _ ea) eb ec

    by : (tag : Option FieldKind) → kind_of_tag t ≡ tag → StartView d (t ∷ h ∷ l ∷ w) (judged tag (h * 256 + l) (length w) d)
    by None e = refused Refusal.Tag (t ∷ h ∷ l ∷ w) (omega arith, omega arith) (omega arith)
    by (Some k) e = known k e (ltb (length w) (h * 256 + l)) refl (length_allowed k (h * 256 + l)) refl (depth_allowed k d) refl

pub whole-field : (d : ℕ) (bs : List ℕ) (k : FieldKind) (n : ℕ) → start_of d bs ≡ Ok (Some (k, n)) → WholeField d bs k n
whole-field d bs k n e = by bs k n (subst (StartView d bs) e (start_view d bs))
  where
    by : (bs : List ℕ) (k : FieldKind) (n : ℕ) → StartView d bs (Ok (Some (k, n))) → WholeField d bs k n
    by bs k n (header t h l w j known room long deep) = record { room = omega arith; long = long; deep = deep }

-- only an empty run is at its end
pub end_empty : (d : ℕ) (bs : List ℕ) → start_of d bs ≡ (Ok None) → bs ≡ []
end_empty d bs e = by bs (subst (StartView d bs) e (start_view d bs))
  where
    by : (bs : List ℕ) → StartView d bs (Ok None) → bs ≡ []
    by bs at_end = refl

-- the rest after a field is shorter, and so is its content
rest_shorter : (d : ℕ) (bs : List ℕ) (k : FieldKind) (n m : ℕ) → start_of d bs ≡ Ok (Some (k, n)) → length bs ≤ suc m → length (drop (3 + n) bs) ≤ m
rest_shorter d bs k n m e h =
    let room : 3 + n ≤ length bs = (whole-field d bs k n e).room in
    let rest : length (drop (3 + n) bs) ≡ length bs - (3 + n) = length-drop (3 + n) bs in
    omega arith

content_shorter : (d : ℕ) (bs : List ℕ) (k : FieldKind) (n m : ℕ) → start_of d bs ≡ Ok (Some (k, n)) → length bs ≤ suc m → length (take n (drop 3 bs)) ≤ m
content_shorter d bs k n m e h =
    let room : 3 + n ≤ length bs = (whole-field d bs k n e).room in
    let after : length (drop 3 bs) ≡ length bs - 3 = length-drop 3 bs in
    let content : length (take n (drop 3 bs)) ≡ n = length-take-le n (drop 3 bs) (omega arith) in
    omega arith

-- two ways to go on that agree on every shorter run give the same step
step-agrees : (run run' : ℕ → ℕ → List ℕ → Scan) (d p : ℕ) (bs : List ℕ) (s : Result (Option (FieldKind × ℕ)) Refusal)
    → ((k : FieldKind) (n : ℕ) → s ≡ Ok (Some (k, n)) → (e q : ℕ) → run e q (take n (drop 3 bs)) ≡ run' e q (take n (drop 3 bs)))
    → ((k : FieldKind) (n : ℕ) → s ≡ Ok (Some (k, n)) → (e q : ℕ) → run e q (drop (3 + n) bs) ≡ run' e q (drop (3 + n) bs))
    → step run d p bs s ≡ step run' d p bs s
step-agrees run run' d p bs (Ok None) hc hr = refl
step-agrees run run' d p bs (Err f) hc hr = refl
step-agrees run run' d p bs (Ok (Some (k, n))) hc hr =
    ap₂ (λ (i r : Scan). Fields (record { place = p; depth = d; kind = k; content = take n (drop 3 bs) } ∷ []) and_then i and_then r)
    (within k (hc k n refl)) (hr k n refl d (p + 3 + n))
  where
    within : (j : FieldKind) → ((e q : ℕ) → run e q (take n (drop 3 bs)) ≡ run' e q (take n (drop 3 bs)))
        → inside run j d p (take n (drop 3 bs)) ≡ inside run' j d p (take n (drop 3 bs))
    within FieldKind.Word h = refl
    within FieldKind.Figure h = refl
    within FieldKind.Note h = refl
    within FieldKind.Group h = h (suc d) (p + 3)

-- more steps than bytes change nothing
pub enough : (k m d p : ℕ) (bs : List ℕ) → length bs ≤ k → length bs ≤ m → scan k d p bs ≡ scan m d p bs
unfolding scan
enough zero zero d p bs hk hm = refl
enough zero (suc m) d p [] hk hm = refl
enough zero (suc m) d p (b ∷ bs) hk hm = absurd (omega arith)
enough (suc k) zero d p [] hk hm = refl
enough (suc k) zero d p (b ∷ bs) hk hm = absurd (omega arith)
enough (suc k) (suc m) d p bs hk hm =
    step-agrees (scan k) (scan m) d p bs (start_of d bs)
    (λ j n e f q. enough k m f q (take n (drop 3 bs)) (content_shorter d bs j n k e hk) (content_shorter d bs j n m e hm))
    (λ j n e f q. enough k m f q (drop (3 + n) bs) (rest_shorter d bs j n k e hk) (rest_shorter d bs j n m e hm))

-- A run is its first step, with the same definition for the inside and for the rest.
pub run_step : (d p : ℕ) (bs : List ℕ) → run_of d p bs ≡ step run_of d p bs (start_of d bs)
unfolding scan
run_step d p [] = refl
run_step d p (b ∷ bs) =
    step-agrees (scan (length bs)) run_of d p (b ∷ bs) (start_of d (b ∷ bs))
    (λ j n e f q. enough (length bs) (length (take n (drop 3 (b ∷ bs)))) f q (take n (drop 3 (b ∷ bs))) (content_shorter d (b ∷ bs) j n (length bs) e (le_refl _)) (le_refl _))
    (λ j n e f q. enough (length bs) (length (drop (3 + n) (b ∷ bs))) f q (drop (3 + n) (b ∷ bs)) (rest_shorter d (b ∷ bs) j n (length bs) e (le_refl _)) (le_refl _))
