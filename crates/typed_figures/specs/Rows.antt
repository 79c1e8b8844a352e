-- A text is its parts in a row; and the row of a sign, digits, a separator and decimals is read by these parts.
-- Assumes nothing.
use Rattle.std.specs.Prelude.{◌≡◌, refl, Bool, true, false, cond, ◌||◌, List, [], ◌∷◌, ◌++◌, ℕ, ◌<◌, eqb}
use Rattle.std.proofs.Common.{sym, ap, ◌∙◌, append-nil, arith, eqb-true, ne_eqb}
use Rattle.numerals.specs.Theorems.{Digits}
use Rattle.typed_texts.specs.Texts.{text_before, text_behind, starts_with}
use Rattle.typed_texts.specs.TextLaws.{has}
use Rattle.typed_figures.specs.Figures.{behind_sign}
use Rattle.typed_figures.specs.Grammar.{Sign, none, plus, minus, Separator, point, comma, absent}

-- ---- a text is a row

-- the sign of a text, and what stands behind it
pub sign-row : (t : List ℕ) → (s : List ℕ) × (Sign s (starts_with 45 t) × (t ≡ s ++ behind_sign t))
sign-row [] = ([], (none, refl))
sign-row (c ∷ t) = go (eqb c 45) (eqb c 43) refl refl
  where
    go : (a b : Bool) → eqb c 45 ≡ a → eqb c 43 ≡ b → (s : List ℕ) × (Sign s a × (c ∷ t ≡ s ++ cond (a || b) t (c ∷ t)))
    go true b e f = (45 ∷ [], (minus, ap (λ (x : ℕ). x ∷ t) (eqb-true c 45 e)))
    go false true e f = (43 ∷ [], (plus, ap (λ (x : ℕ). x ∷ t) (eqb-true c 43 f)))
    go false false e f = ([], (none, refl))

-- ---- a row is read by its parts

-- a byte below the digits stands behind them, if anywhere
module _ (x : ℕ) (small : x < 48) (r : List ℕ) where
  pub has_behind : (w : List ℕ) → Digits 10 w → has x (w ++ r) ≡ has x r
  has_behind [] h = refl
  has_behind (c ∷ w) h = rw (ne_eqb c x (λ e. omega (arith, h.0.0))) (has_behind w h.1)

  pub before_behind : (w : List ℕ) → Digits 10 w → text_before x (w ++ r) ≡ w ++ text_before x r
  before_behind [] h = refl
  before_behind (c ∷ w) h = rw (ne_eqb c x (λ e. omega (arith, h.0.0))) (ap (λ (s : List ℕ). c ∷ s) (before_behind w h.1))

  pub behind_behind : (w : List ℕ) → Digits 10 w → text_behind x (w ++ r) ≡ text_behind x r
  behind_behind [] h = refl
  behind_behind (c ∷ w) h = rw (ne_eqb c x (λ e. omega (arith, h.0.0))) (behind_behind w h.1)

pub no_point : (d : List ℕ) → Digits 10 d → has 46 d ≡ false
no_point d h = ap (has 46) (sym (append-nil d)) ∙ has_behind 46 (omega arith) [] d h

-- digits and separators are no signs
pub unsigned : {s d : List ℕ} → Separator s d → (w : List ℕ) → Digits 10 w → (starts_with 45 (w ++ (s ++ d)) ≡ false) × (behind_sign (w ++ (s ++ d)) ≡ w ++ (s ++ d))
unsigned p (c ∷ w) h =
    let minus-not = ne_eqb c 45 (λ e. omega (arith, h.0.0)) in
    let plus-not = ne_eqb c 43 (λ e. omega (arith, h.0.0)) in
    (minus-not, rw (minus-not, plus-not) refl)
unsigned point [] h = (refl, refl)
unsigned comma [] h = (refl, refl)
unsigned absent [] h = (refl, refl)
