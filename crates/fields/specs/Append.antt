-- A legal run with another after it: the fields of the first, then what the second is.
-- Assumes nothing.
use Rattle.std.specs.Prelude.{◌≡◌, refl, Bool, true, false, cond, List, ◌++◌, ℕ, ◌+◌, ◌-◌, ◌≤◌, ltb, length, Option, Some, None, Ok, Err, Result}
use Rattle.std.proofs.Common.{ap, ◌∙◌, arith, le-ltb, ltb-false}
use Rattle.refusals.specs.declared.Refusal.{Refusal}
use Rattle.fields.specs.declared.FieldKind.{FieldKind}
use Rattle.fields.specs.Start.{length_allowed, depth_allowed, judged}
use Rattle.fields.specs.Run.{Field, Scan, Fields, Refused, ◌and_then◌, run_of}

-- a scan without a refusal
abbrev pub LegalRun : Scan → Type 0
LegalRun (Fields fs) = Unit {0}
LegalRun (Refused f p) = ⊥

-- of two scans without a refusal the second has none
pub second_legal : (x y : Scan) → LegalRun (x and_then y) → LegalRun y
second_legal (Fields fs) (Fields gs) h = tt
second_legal (Fields fs) (Refused f p) h = h
second_legal (Refused f p) y h = absurd h

-- ---- a start with more bytes after it

pub judged_more : (t : Option FieldKind) (len left more d : ℕ) (k : FieldKind) (n : ℕ) → judged t len left d ≡ Ok (Some (k, n)) → judged t len (left + more) d ≡ Ok (Some (k, n))
judged_more None len left more d k n e = e
judged_more (Some j) len left more d k n e = by (ltb left len) refl e
  where
    by : (cut : Bool) → ltb left len ≡ cut
        → cond {A = Result (Option (FieldKind × ℕ)) Refusal} cut (Err Refusal.Truncated) (cond (length_allowed j len) (cond (depth_allowed j d) (Ok (Some (j, len))) (Err Refusal.Depth)) (Err Refusal.Length)) ≡ Ok (Some (k, n))
        → judged (Some j) len (left + more) d ≡ Ok (Some (k, n))
    by true c e = let z : ◌≡◌ {A = ℕ} 0 1 = cc in absurd (omega arith)
    by false c e =
        let fits : len ≤ left = ltb-false left len c in
        ap (λ (b : Bool). cond {A = Result (Option (FieldKind × ℕ)) Refusal} b (Err Refusal.Truncated) (cond (length_allowed j len) (cond (depth_allowed j d) (Ok (Some (j, len))) (Err Refusal.Depth)) (Err Refusal.Length)))
        (le-ltb (left + more) len (omega arith))
        ∙ e

-- ---- one run after another

-- what is to be shown of a run a and another b after it
abbrev pub Joins : (d p : ℕ) → List ℕ → List ℕ → Type 0
Joins d p a b = run_of d p (a ++ b) ≡ run_of d p a and_then run_of d (p + length a) b
