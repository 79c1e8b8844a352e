-- The last line feed by its place: it is one, and none stands behind it.
-- Assumes nothing.
use mathlib.Core.Path.{◌≡◌, refl, sym, ap, ◌∙◌}
use mathlib.Core.Bool.{Bool, false, true, cond}
use mathlib.Core.Logic.{◌≢◌}
use mathlib.Core.List.{List, [], ◌∷◌}
use Prim.Native.Nat.{ℕ, suc, ◌+◌, ◌≤◌, ◌<◌}
use native.Mathlib.Numerals.{add-one}
use native.Mathlib.Omega.{arith}
use borrow.Author.Tests.{ne_eqb}
use lib.ListN.{length, drop, get_or, length-drop}
use lib.Seq.{get_or-drop}
use Rattle.typed_texts.specs.TextLaws.{has}
use Rattle.text_lines.specs.Lines.{whole_lines}
use Rattle.text_lines.proofs.LineLaws.{whole_length, none-whole-length}

none_has : (t : List ℕ) → ((k : ℕ) → k < length t → get_or t k 0 ≢ 10) → has 10 t ≡ false
none_has [] none = refl
none_has (c ∷ t) none =
    let later : has 10 t ≡ false = none_has t (λ k h. none (suc k) (omega arith)) in
    ap (λ (b : Bool). cond b true (has 10 t)) (ne_eqb c 10 (none 0 (omega arith))) ∙ later

pub last_feed : (t : List ℕ) (i : ℕ) → i < length t → get_or t i 0 ≡ 10 → ((k : ℕ) → i + 1 ≤ k → k < length t → get_or t k 0 ≢ 10) → i + 1 ≡ length (whole_lines t)
last_feed t i h e none =
    let behind : has 10 (drop (suc i) t) ≡ false =
    none_has (drop (suc i) t) (λ k h' e'. none (suc i + k) (omega arith) (omega (arith, length-drop (suc i) t)) (sym (get_or-drop (suc i) t k 0) ∙ e')) in
    add-one i ∙ sym (whole_length t i h e behind)

pub no_feed : (t : List ℕ) → ((k : ℕ) → k < length t → get_or t k 0 ≢ 10) → 0 ≡ length (whole_lines t)
no_feed t none = sym (none-whole-length t (none_has t none))
