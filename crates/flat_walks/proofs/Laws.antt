-- The numbers of a walk stand for it, so a walk from numbers to numbers gives what the walk gives; and a field that is given lies inside the sheet.
-- Assumes nothing.
use Rattle.std.specs.Prelude.{◌≡◌, refl, List, ℕ, zero, suc, ◌≤◌, Option, Some, None, Result, Ok, Err}
use Rattle.std.proofs.Common.{sym, ap, subst, ◌∙◌, inl, inr, lit≤}
use Rattle.refusals.specs.Numbers.{number_of, numbered}
use Rattle.walk.specs.declared.Position.{Position}
use Rattle.refusals.specs.declared.Refusal.{Refusal}
use Rattle.fields.specs.Run.{Refused}
use Rattle.walk.specs.Walked.{after}
use Rattle.walk.specs.Step.{start_walk}
use Rattle.walk.specs.Step.{step_of}
use Rattle.flat_walks.specs.declared.FlatWalk.{FlatWalk}
use Rattle.flat_walks.specs.Walks.{sheet_refusals, flat_walk, walk_numbered, walk_from, flat_field, stepped}
use Rattle.flat_walks.specs.Laws.{IsSheets, OfSheet, nine_to_twelve, start-of_sheet, Found, found, step-of_sheet, flat_after}

refusal_back : (f : Refusal) → IsSheets f → numbered sheet_refusals (number_of f) ≡ Some f
refusal_back f (inl h) = nine_to_twelve f h.0 h.1
refusal_back f (inr e) = subst (λ (g : Refusal). numbered sheet_refusals (number_of g) ≡ Some g) (sym e) refl

-- The numbers of a walk over a sheet stand for it.
pub walk_back : (w : Result Position (Refusal × ℕ)) → OfSheet w → walk_from (flat_walk w) ≡ w
walk_back (Ok w) h = refl
walk_back (Err (f, p)) h = ap (λ (n : Option Refusal). walk_numbered n (flat_walk (Err (f, p)))) (refusal_back f h)

-- No number stands for a refusal that no sheet has.
pub numbers-of_sheet : (w : FlatWalk) → OfSheet (walk_from w)
numbers-of_sheet w =
    by (numbered sheet_refusals w.refusal)
    (found sheet_refusals w.refusal (inl (lit≤ tt, lit≤ tt), (inl (lit≤ tt, lit≤ tt), (inl (lit≤ tt, lit≤ tt), (inl (lit≤ tt, lit≤ tt), (inr refl, tt))))))
  where
    by : (x : Option Refusal) → Found x → OfSheet (walk_numbered x w)
    by (Some f) h = h
    by None h = tt

pub steps_alike : (s : List ℕ) (n : ℕ) (w : FlatWalk) → walk_from (flat_after n s w) ≡ after n s (walk_from w)
steps_alike s zero w = refl
steps_alike s (suc n) w =
    steps_alike s n (stepped s w).next ∙ ap (after n s) (walk_back (step_of s (walk_from w)).next (step-of_sheet s (walk_from w) (numbers-of_sheet w)))

-- From the start of a sheet on, each step gives the numbers of what the walk over the sheet gives.
pub fields_alike : (s : List ℕ) (n : ℕ) → (stepped s (flat_after n s (flat_walk (start_walk s)))).field ≡ flat_field (step_of s (after n s (start_walk s))).given
fields_alike s n =
    ap (λ (w : Result Position (Refusal × ℕ)). flat_field (step_of s w).given)
    (steps_alike s n (flat_walk (start_walk s)) ∙ ap (after n s) (walk_back (start_walk s) (start-of_sheet s)))
