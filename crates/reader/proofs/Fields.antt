-- The fields of a sheet by their index: what a walk gives after so many steps is the field with that index.
-- Assumes nothing.
use Rattle.std.specs.Prelude.{◌≡◌, refl, Bool, true, false, List, [], ◌∷◌, ℕ, zero, suc, ◌-◌, Result, Err, Option, Some, Ok}
use Rattle.std.proofs.Common.{sym, ap, ◌∙◌, subst, arith}
use Rattle.fields.specs.Run.{Field, Scan, Fields, Refused, sheet_of}
use Rattle.walk.specs.declared.Position.{Position}
use Rattle.refusals.specs.declared.Refusal.{Refusal}
use Rattle.walk.specs.declared.FieldAt.{FieldAt}
use Rattle.walk.specs.declared.WalkStep.{WalkStep}
use Rattle.walk.specs.Step.{start_walk, walk_of, step_of}
use Rattle.walk.specs.Stands.{Stands}
use Rattle.walk.proofs.Stands.{start_stands}
use Rattle.walk.specs.Walked.{after, stays}
use Rattle.walk.proofs.Walked.{steps, ends}
use Rattle.reader.specs.Fields.{is_field, field_in, field_at}

not_a_field : (g : Result (Option FieldAt) (Refusal × ℕ)) → is_field g ≡ false → (a : FieldAt) → g ≡ Ok (Some a) → ⊥
not_a_field g e a t = let z : ◌≡◌ {A = Bool} false true = sym e ∙ ap is_field t in let y : ◌≡◌ {A = ℕ} 0 1 = cc in omega arith

pub stopped : (s : List ℕ) (w : Result Position (Refusal × ℕ)) (n : ℕ) → is_field (step_of s w).given ≡ false → after n s w ≡ w
stopped s w zero e = refl
stopped s w (suc n) e = ap (after n s) (stays s w (not_a_field (step_of s w).given e)) ∙ stopped s w n e

gives : (s : List ℕ) (w : Result Position (Refusal × ℕ)) (fs : List Field) (n : ℕ) → Stands s w (Fields fs) → (step_of s (after n s w)).given ≡ field_in fs n
gives s w [] n h =
    let end = ends s w h in
    ap (λ (v : Result Position (Refusal × ℕ)). (step_of s v).given) (stopped s w n (ap (λ (x : WalkStep). is_field x.given) end)) ∙ ap (λ (x : WalkStep). x.given) end
gives s w (f ∷ fs) zero h = (steps s w f fs h).given
gives s w (f ∷ fs) (suc n) h = gives s (step_of s w).next fs n (steps s w f fs h).next

-- The walk's answer after so many steps is the field with that index.
pub walk_gives_at : (s : List ℕ) (n : ℕ) → (step_of s (after n s (start_walk s))).given ≡ field_at (sheet_of s) n
walk_gives_at s n = by (sheet_of s) refl
  where
    by : (r : Scan) → sheet_of s ≡ r → (step_of s (after n s (start_walk s))).given ≡ field_at r n
    by (Fields fs) e = gives s (start_walk s) fs n (subst (Stands s (start_walk s)) e (start_stands s))
    by (Refused f p) e =
        ap (λ (r : Scan). (step_of s (after n s (walk_of r))).given) e
        ∙ ap (λ (v : Result Position (Refusal × ℕ)). (step_of s v).given) (stopped s (Err (f, p)) n refl)
