-- Why the check of a top field follows the rules of its own bytes.
-- Assumes nothing.
use Rattle.std.specs.Prelude.{◌≡◌, refl, List, [], ℕ, ◌+◌, drop}
use Rattle.std.proofs.Common.{sym, ap, ◌∙◌}
use Rattle.refusals.specs.Order.{Follows}
use Rattle.refusals.proofs.Order.{kept-first, broken_first}
use Rattle.refusals.specs.Order.{no_rules}
use Rattle.fields.specs.Grammar.{fields_of, Bytes, bytes_take, bytes_drop}
use Rattle.fields.proofs.Grammar.{written_legal, legal_written}
use Rattle.fields.specs.Answers.{scanned, never}
use Rattle.fields.specs.Rules.{length_in}
use Rattle.fields.proofs.RulesLemmas.{refused_so, refused-only_so}
use Rattle.fields.specs.Run.{Scan, Fields, Refused, run_of}
use Rattle.sheet.specs.Checked.{field_of}
use Rattle.demands.specs.ChainedLemmas.{chained}
use Rattle.demands.specs.EntryRules.{own_bytes, top_field_rules, passed}
use Rattle.demands.specs.TopFieldLemmas.{alike}

module _ (s : List ℕ) (bytes : Bytes s) (at : ℕ) where
  run_follows : Follows scanned (top_field_rules s at) (run_of 1 at (own_bytes s at))
  run_follows = by (run_of 1 at (own_bytes s at)) refl
    where
      own : Bytes (own_bytes s at)
      own = bytes_take (3 + length_in (drop at s)) (bytes_drop at bytes)

      by : (r : Scan) → run_of 1 at (own_bytes s at) ≡ r → Follows scanned (top_field_rules s at) r
      by (Fields fs) e =
          let w = legal_written 1 at (own_bytes s at) own fs e in
          kept-first scanned _ [] (Fields fs) (w.trees, w.allowed, w.bytes) (λ r h. never fs r.0 r.1 (sym (refused_so h) ∙ e))
          (no_rules scanned (Fields fs) (fs, refl))
      by (Refused f q) e =
          broken_first scanned _ [] (f, q)
          (λ w. never (fields_of 1 at w.0) f q (sym e ∙ ap (run_of 1 at) (sym w.2) ∙ written_legal 1 at w.0 w.1))
          (refused-only_so 1 at (own_bytes s at) own f q e)
          (λ r h. scanned.once r (f, q) (sym (refused_so h) ∙ e))

  pub top_field_follows : Follows passed (top_field_rules s at) (field_of 1 0 at s)
  top_field_follows = chained scanned passed (top_field_rules s at) [] (run_of 1 at (own_bytes s at)) (field_of 1 0 at s) run_follows (alike s bytes at)
