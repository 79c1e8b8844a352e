-- Decoding follows the rules of a word, and they are all kept exactly by the words that are allowed.
-- Assumes nothing.
use Rattle.std.specs.Prelude.{◌≡◌, refl, Bool, true, false, cond, ℕ, Some, Result, Err}
use Rattle.std.proofs.Common.{sym, ap, ◌∙◌}
use Rattle.records.specs.declared.Kind.{Kind}
use Rattle.records.specs.declared.Record.{Record}
use Rattle.refusals.specs.declared.Refusal.{Refusal}
use Rattle.labels.specs.Label.{label_of}
use Rattle.labels.specs.Assignment.{Assignment}
use Rattle.decode.specs.Decode.{judged}

-- the judgement of a tested rule
pub judged_test : (b : Bool) (v : Result Unit Refusal) (f : Refusal) (r : Record) → judged (cond b v (Err f)) r ≡ cond b (judged v r) (Err f)
judged_test true v f r = refl
judged_test false v f r = refl

module _ (a : Assignment) (w : ℕ) where
  -- the word's label is that of one kind only
  pub one_kind : (j k : Kind) → label_of w ≡ a.label j → label_of w ≡ a.label k → j ≡ k
  one_kind j k e f = let g : Some j ≡ Some k = sym (a.found j) ∙ ap a.kind (sym e ∙ f) ∙ a.found k in cc
