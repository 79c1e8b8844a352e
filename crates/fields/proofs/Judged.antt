-- Every sheet of bytes follows its rules (`Rules`): it is refused with exactly what they refuse it with, at that offset, and has fields exactly when legal fields wrote it.
-- Assumes nothing.
use Rattle.std.specs.Prelude.{◌≡◌, refl, Bool, true, false, cond, List, [], ◌∷◌, ℕ, ◌≤◌, ◌<◌, ltb, length}
use Rattle.std.proofs.Common.{sym, ap, ◌∙◌, arith, ltb-true, ltb-false}
use Rattle.refusals.specs.Order.{Follows, no_rules}
use Rattle.refusals.proofs.Order.{kept-first, broken_first, kept-one, broken_one}
use Rattle.refusals.specs.declared.Refusal.{Refusal}
use Rattle.fields.specs.Run.{Scan, Fields, Refused, sheet_limit, run_of, sheet_of, inside_of}
use Rattle.fields.specs.Grammar.{fields_of, Bytes}
use Rattle.fields.proofs.Grammar.{written_legal, legal_written}
use Rattle.fields.specs.Answers.{never, same_refusal, scanned}
use Rattle.fields.specs.Rules.{RefusedAt, run_rule, sheet_rules, inside_rules}
use Rattle.fields.proofs.RulesLemmas.{refused_so, refused-only_so}

-- At most one refusal at one offset is given to a run.
pub one_refusal : {d p q r : ℕ} {bs : List ℕ} {f g : Refusal} → RefusedAt d p bs f q → RefusedAt d p bs g r → (f ≡ g) × (q ≡ r)
one_refusal {d} {p} {q} {r} {bs} {f} {g} a b = same_refusal f g q r (sym (refused_so a) ∙ refused_so b)

run_follows : (d : ℕ) (bs : List ℕ) → Bytes bs → Follows scanned (run_rule d bs ∷ []) (run_of d 0 bs)
run_follows d bs b = by (run_of d 0 bs) refl
  where
    by : (s : Scan) → run_of d 0 bs ≡ s → Follows scanned (run_rule d bs ∷ []) s
    by (Fields fs) e =
        let w = legal_written d 0 bs b fs e in
        kept-first scanned (run_rule d bs) [] (Fields fs) (w.trees, w.allowed, w.bytes) (λ r h. never fs r.0 r.1 (sym (refused_so h) ∙ e))
        (no_rules scanned (Fields fs) (fs, refl))
    by (Refused f q) e =
        broken_first scanned (run_rule d bs) [] (f, q)
        (λ w. never (fields_of d 0 w.0) f q (sym e ∙ ap (run_of d 0) (sym w.2) ∙ written_legal d 0 w.0 w.1))
        (refused-only_so d 0 bs b f q e)
        (λ r h. scanned.once r (f, q) (sym (refused_so h) ∙ e))

-- The inside of a group that is to be a top field.
pub inside_order : (bs : List ℕ) → Bytes bs → Follows scanned (inside_rules bs) (inside_of bs)
inside_order bs b = run_follows 2 bs b

-- A sheet.
pub sheet_order : (bs : List ℕ) → Bytes bs → Follows scanned (sheet_rules bs) (sheet_of bs)
sheet_order bs b = by (ltb sheet_limit (length bs)) refl
  where
    by : (long : Bool) → ltb sheet_limit (length bs) ≡ long → Follows scanned (sheet_rules bs) (cond long (Refused Refusal.Oversize 0) (run_of 1 0 bs))
    by true e = let past : 32768 < length bs = ltb-true _ _ e in broken_one scanned (length bs ≤ 32768) (Refusal.Oversize, 0) _ (λ h. omega arith)
    by false e = kept-one scanned (length bs ≤ 32768) (Refusal.Oversize, 0) _ _ (ltb-false _ _ e) (run_follows 1 bs b)
