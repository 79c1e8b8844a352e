-- A quantity coded under any label of 8 bits. Under the label that an assignment gives to the quantity this is what the figure is coded to (`coded_under_lem`);
-- under another it is the same refusal, or the same word but for the label and the parity.
-- Assumes nothing.
use Rattle.std.specs.Prelude.{◌≡◌, refl, Bool, true, false, cond, ℕ, ◌≤◌, ◌<◌, leb, ℤ, Option, Some, None, Err}
use Rattle.std.proofs.Common.{sym, ◌∙◌, leb-true}
use Rattle.refusals.specs.declared.Refusal.{Refusal}
use Rattle.quantities.specs.Nearest.{nearest_count}
use Rattle.quantities.specs.declared.Quantity.{Quantity}
use Rattle.figures.specs.Coding.{coded_nearest, coded_under}
use Rattle.figures.specs.Under.{Alike, word_label, word_above, word-odd}

pub coded_alike : (q : Quantity) (label other : ℕ) → label < 256 → (source : ℕ) (figure : ℤ) → Alike label (coded_under q label source figure) (coded_under q other source figure)
coded_alike q label other h source figure = go (leb source 3) (leb-true source 3) (nearest_count q figure)
  where
    go : (b : Bool) → (b ≡ true → source ≤ 3) → (n : Option ℤ)
        → Alike label (cond b (coded_nearest q label source n) (Err Refusal.Code)) (cond b (coded_nearest q other source n) (Err Refusal.Code))
    go true s (Some c) =
        (word_label q source c (s refl) label h, word_above q source c (s refl) label ∙ sym (word_above q source c (s refl) other), word-odd q source c (s refl) label)
    go true s None = refl
    go false s n = refl
