-- Why the check of a top field follows the rules of its own bytes.
-- Assumes nothing.
use Rattle.std.specs.Prelude.{◌≡◌, refl, Bool, true, false, cond, List, [], ◌∷◌, ◌⊎◌, ℕ, suc, ◌+◌, ◌*◌, ◌≤◌, ◌<◌, ltb, length, take, drop, Option, Some, None, Result, Ok, Err}
use Rattle.std.proofs.Common.{sym, ap, ap₂, ◌∙◌, inl, inr, le_refl, arith, ltb-true, ltb-false, length-take-le, take_all, take-take}
use Rattle.std.proofs.Math.Path.{subst⁻¹}
use Rattle.std.proofs.Math.Seq.{drop-length}
use Rattle.refusals.specs.Order.{Follows}
use Rattle.refusals.specs.Order.{no_rules}
use Rattle.refusals.specs.declared.Refusal.{Refusal}
use Rattle.fields.specs.declared.FieldKind.{FieldKind}
use Rattle.fields.specs.Grammar.{Bytes}
use Rattle.fields.specs.Answers.{scanned}
use Rattle.fields.specs.Laws.{StartView, at_end, refused, header}
use Rattle.fields.proofs.Laws.{start_view, run_step}
use Rattle.fields.specs.Rules.{length_in}
use Rattle.fields.specs.Run.{Field, Scan, Fields, Refused, ◌and_then◌, inside, step, run_of}
use Rattle.fields.specs.Start.{kind_of_tag, length_allowed, depth_allowed, judged, start_of}
use Rattle.sheet.specs.Checked.{checked_of, after_inside, field_from, field_of}
use Rattle.demands.specs.EntryRules.{own_bytes, passed}

-- ---- the field's own bytes start as what is left of the sheet does

cut_same : (n : ℕ) (w : List ℕ) → ltb (length (take n w)) n ≡ ltb (length w) n
cut_same n w = by (ltb (length (take n w)) n) refl (ltb (length w) n) refl
  where
    by : (b : Bool) → ltb (length (take n w)) n ≡ b → (c : Bool) → ltb (length w) n ≡ c → b ≡ c
    by true eb true ec = refl
    by false eb false ec = refl
    by true eb false ec =
        let short : length (take n w) < n = ltb-true _ _ eb in
        let all : length (take n w) ≡ n = length-take-le n w (ltb-false _ _ ec) in
        absurd (omega arith)
    by false eb true ec =
        let less : length w < n = ltb-true _ _ ec in
        let all : length (take n w) ≡ length w = ap length (take_all n w (omega arith)) in
        let far : n ≤ length (take n w) = ltb-false _ _ eb in
        absurd (omega arith)

judged_same : (tag : Option FieldKind) (d n : ℕ) (w : List ℕ) → judged tag n (length (take n w)) d ≡ judged tag n (length w) d
judged_same None d n w = refl
judged_same (Some k) d n w =
    ap (λ (b : Bool). cond {A = Result (Option (FieldKind × ℕ)) Refusal} b (Err Refusal.Truncated) (cond (length_allowed k n) (cond (depth_allowed k d) (Ok (Some (k, n))) (Err Refusal.Depth)) (Err Refusal.Length)))
    (cut_same n w)

three : (n : ℕ) → 3 + n ≡ suc (suc (suc n))
three n = omega arith

start_same : (d : ℕ) (bs : List ℕ) → start_of d (take (3 + length_in bs) bs) ≡ start_of d bs
start_same d [] = refl
start_same d (t ∷ []) = refl
start_same d (t ∷ h ∷ []) = ap (λ (m : ℕ). start_of d (take m (t ∷ h ∷ []))) (three (h * 256 + 0))
start_same d (t ∷ h ∷ l ∷ w) = ap (λ (m : ℕ). start_of d (take m (t ∷ h ∷ l ∷ w))) (three (h * 256 + l)) ∙ judged_same (kind_of_tag t) d (h * 256 + l) w

nothing_left : (n : ℕ) (w : List ℕ) → n ≤ length w → drop n (take n w) ≡ []
nothing_left n w room = ap (λ (m : ℕ). drop m (take n w)) (sym (length-take-le n w room)) ∙ drop-length (take n w)

-- ---- the two checks agree

-- both refuse alike, or neither refuses
abbrev pub Alike : Scan → Result (Option ℕ) (Refusal × ℕ) → Type 0
Alike r x = ((f : Refusal × ℕ) × (r ≡ Refused f.0 f.1) × (x ≡ passed.refuse f)) ⊎ (scanned.accepts r × Follows passed [] x)

module _ (s : List ℕ) (bytes : Bytes s) (at : ℕ) where
  abbrev field_by : List ℕ → Result (Option (FieldKind × ℕ)) Refusal → Result (Option ℕ) (Refusal × ℕ)
  field_by bs (Ok None) = Ok None
  field_by bs (Err f) = Err (f, at)
  field_by bs (Ok (Some (k, n))) = after_inside (checked_of (inside run_of k 1 at (take n (drop 3 bs)))) (at + 3 + n)

  from_0 : 0 + at ≡ at
  from_0 = omega arith

  same_field : (x : Result (Option (FieldKind × ℕ)) Refusal) → field_from 1 0 at s x ≡ field_by (drop at s) x
  same_field (Ok None) = refl
  same_field (Err f) = ap (λ z. Err (f, z)) from_0
  same_field (Ok (Some (k, n))) = ap (λ (p : ℕ). after_inside (checked_of (inside run_of k 1 p (take n (drop 3 (drop at s))))) (at + 3 + n)) from_0

  inside-alike : (f : Field) (i : Scan) (next : ℕ) → Alike (Fields (f ∷ []) and_then i and_then Fields []) (after_inside (checked_of i) next)
  inside-alike f (Fields gs) next = inr ((_, refl), no_rules passed _ (_, refl))
  inside-alike f (Refused g q) next = inl ((g, q), refl, refl)

  view_alike : (bs : List ℕ) (x : Result (Option (FieldKind × ℕ)) Refusal) → StartView 1 bs x → Alike (step run_of 1 at (take (3 + length_in bs) bs) x) (field_by bs x)
  view_alike bs x at_end = inr ((_, refl), no_rules passed _ (_, refl))
  view_alike bs x (refused f cs number some) = inl ((f, at), refl, refl)
  view_alike bs x (header t h l w k known room long deep) =
      let n : ℕ = h * 256 + l in
      subst⁻¹ (λ (r : Scan). Alike r (field_by (t ∷ h ∷ l ∷ w) (Ok (Some (k, n)))))
      (ap₂ (λ (c rest : List ℕ). Fields (record { place = at; depth = 1; kind = k; content = c } ∷ []) and_then inside run_of k 1 at c and_then run_of 1 (at + 3 + n) rest)
      (ap (λ (m : ℕ). take n (drop 3 (take m (t ∷ h ∷ l ∷ w)))) (three n) ∙ take-take n n w (le_refl n))
      (ap (λ (m : ℕ). drop m (take m (t ∷ h ∷ l ∷ w))) (three n) ∙ nothing_left n w room)
      ∙ ap (λ (r : Scan). Fields (record { place = at; depth = 1; kind = k; content = take n w } ∷ []) and_then inside run_of k 1 at (take n w) and_then r) (run_step 1 (at + 3 + n) []))
      (inside-alike _ (inside run_of k 1 at (take n w)) (at + 3 + n))

  pub alike : Alike (run_of 1 at (own_bytes s at)) (field_of 1 0 at s)
  alike =
      let bs : List ℕ = drop at s in
      subst⁻¹ (λ (r : Scan). Alike r (field_of 1 0 at s)) (run_step 1 at (own_bytes s at) ∙ ap (step run_of 1 at (own_bytes s at)) (start_same 1 bs))
      (subst⁻¹ (Alike (step run_of 1 at (own_bytes s at) (start_of 1 bs))) (same_field (start_of 1 bs)) (view_alike bs (start_of 1 bs) (start_view 1 bs)))
