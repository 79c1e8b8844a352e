-- A text is its parts in a row; and the row of a sign, digits, a separator and decimals is read by these parts.
-- Assumes nothing.
use Rattle.std.specs.Prelude.{◌≡◌, refl, Bool, true, false, cond, List, [], ◌∷◌, ◌++◌, ℕ, ◌<◌}
use Rattle.std.proofs.Common.{sym, ap, ap₂, subst, ◌∙◌, append-nil, arith}
use Rattle.numerals.specs.Theorems.{Digits}
use Rattle.typed_texts.specs.Texts.{text_before, text_behind}
use Rattle.typed_texts.specs.TextLaws.{has, parts, whole}
use Rattle.typed_figures.specs.Figures.{separator_of, parts_read, body_read, figure_of}
use Rattle.typed_figures.specs.Grammar.{Sign, none, plus, minus, Separator, point, comma, absent}
use Rattle.typed_figures.specs.Rows.{has_behind, before_behind, behind_behind, no_point, unsigned}

-- the parts before and behind its separator
pub body_row : (t : List ℕ) → (s : List ℕ) × (Separator s (text_behind (separator_of t) t) × (t ≡ text_before (separator_of t) t ++ (s ++ text_behind (separator_of t) t)))
body_row t = go (has 46 t) (has 44 t) refl refl
  where
    go : (a b : Bool) → has 46 t ≡ a → has 44 t ≡ b
        → (s : List ℕ) × (Separator s (text_behind (cond a 46 44) t) × (t ≡ text_before (cond a 46 44) t ++ (s ++ text_behind (cond a 46 44) t)))
    go true b e f = (46 ∷ [], (point, sym (parts 46 t e)))
    go false true e f = (44 ∷ [], (comma, sym (parts 44 t f)))
    go false false e f =
        let k = whole 44 t f in
        ([], (subst (Separator []) (sym k.1) absent, sym (ap₂ ◌++◌ k.0 k.1 ∙ append-nil t)))

module _ (negative : Bool) (w : List ℕ) (h : Digits 10 w) where
  by_separator : (b : Bool) (r : List ℕ) → has 46 r ≡ b → body_read negative (w ++ r) ≡ parts_read negative (w ++ text_before (cond b 46 44) r) (text_behind (cond b 46 44) r)
  by_separator b r e =
      ap (λ (a : Bool). parts_read negative (text_before (cond a 46 44) (w ++ r)) (text_behind (cond a 46 44) (w ++ r)))
      (has_behind 46 (omega arith) r w h ∙ e)
      ∙ ap₂ (parts_read negative) (before_behind (cond b 46 44) (small b) r w h) (behind_behind (cond b 46 44) (small b) r w h)
    where
      small : (b : Bool) → cond b 46 44 < 48
      small true = omega arith
      small false = omega arith

  body_read_lem : {s d : List ℕ} → Separator s d → Digits 10 d → body_read negative (w ++ (s ++ d)) ≡ parts_read negative w d
  body_read_lem {d = d} point k = by_separator true (46 ∷ d) refl ∙ ap (λ (v : List ℕ). parts_read negative v d) (append-nil w)
  body_read_lem {d = d} comma k = by_separator false (44 ∷ d) (no_point d k) ∙ ap (λ (v : List ℕ). parts_read negative v d) (append-nil w)
  body_read_lem absent k = by_separator false [] refl ∙ ap (λ (v : List ℕ). parts_read negative v []) (append-nil w)

pub row_read : {g : List ℕ} {negative : Bool} {s d : List ℕ} → Sign g negative → Separator s d → (w : List ℕ) → Digits 10 w → Digits 10 d → figure_of (g ++ (w ++ (s ++ d))) ≡ parts_read negative w d
unfolding figure_of
row_read none p w h k = ap₂ body_read (unsigned p w h).0 (unsigned p w h).1 ∙ body_read_lem false w h p k
row_read plus p w h k = body_read_lem false w h p k
row_read minus p w h k = body_read_lem true w h p k
