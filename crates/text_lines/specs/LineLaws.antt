-- What makes the definitions of `Lines` believable: no line has a line feed, the lines are the text, lines written and read are the same, and a text is taken apart at any line feed.
-- Assumes nothing.
use Rattle.std.specs.Prelude.{◌≡◌, refl, Bool, true, false, cond, List, [], ◌∷◌, ◌++◌, ℕ, zero, suc, ◌<◌, eqb, length, drop, get_or}
use Rattle.std.proofs.Common.{ap, ◌∙◌, arith, eq-eqb, ne_eqb, drop-cons}
use Rattle.typed_texts.specs.TextLaws.{has}
use Rattle.text_lines.specs.Lines.{on_first, lines_of, text_of, some_has, begun_line}

-- a line feed is missing at the end, or not
abbrev pub feed_for : Bool → List ℕ
feed_for true = []
feed_for false = 10 ∷ []

line_read : (l u : List ℕ) → has 10 l ≡ false → lines_of (l ++ (10 ∷ u)) ≡ l ∷ lines_of u
line_read [] u h = refl
line_read (c ∷ l) u h = go (eqb c 10) refl h (line_read l u)
  where
    go : (b : Bool) → eqb c 10 ≡ b → cond b true (has 10 l) ≡ false → (has 10 l ≡ false → lines_of (l ++ (10 ∷ u)) ≡ l ∷ lines_of u)
        → cond b ([] ∷ lines_of (l ++ (10 ∷ u))) (on_first c (lines_of (l ++ (10 ∷ u)))) ≡ (c ∷ l) ∷ lines_of u
    go true e h later = let z : ◌≡◌ {A = ℕ} 0 1 = cc in absurd (omega arith)
    go false e h later = ap (on_first c) (later h)

-- Lines without line feeds, written with one behind each, are read as they were.
pub lines-back : (ls : List (List ℕ)) → some_has 10 ls ≡ false → lines_of (text_of ls) ≡ ls
lines-back [] h = refl
lines-back (l ∷ ls) h = go (has 10 l) refl h (lines-back ls)
  where
    go : (b : Bool) → has 10 l ≡ b → cond b true (some_has 10 ls) ≡ false → (some_has 10 ls ≡ false → lines_of (text_of ls) ≡ ls)
        → lines_of (l ++ (10 ∷ text_of ls)) ≡ l ∷ ls
    go true e h later = let z : ◌≡◌ {A = ℕ} 0 1 = cc in absurd (omega arith)
    go false e h later = line_read l (text_of ls) e ∙ ap (λ (r : List (List ℕ)). l ∷ r) (later h)

-- ---- a text at its last line feed

-- The begun one has no line feed.
pub begun_unended : (t : List ℕ) → has 10 (begun_line t) ≡ false
begun_unended [] = refl
begun_unended (c ∷ t) = go (has 10 (c ∷ t)) refl (begun_unended t)
  where
    go : (b : Bool) → has 10 (c ∷ t) ≡ b → has 10 (begun_line t) ≡ false → has 10 (cond b (begun_line t) (c ∷ t)) ≡ false
    go true e h = h
    go false e h = e

-- ---- the place of the last line feed, as a search for it from the end needs it

pub has-at : (x : ℕ) (t : List ℕ) (i : ℕ) → i < length t → get_or t i 0 ≡ x → has x t ≡ true
has-at x [] i h e = absurd (omega arith)
has-at x (c ∷ t) zero h e = rw (eq-eqb c x e) refl
has-at x (c ∷ t) (suc i) h e = go (eqb c x) (has-at x t i (omega arith) e)
  where
    go : (b : Bool) → has x t ≡ true → cond b true (has x t) ≡ true
    go true h = refl
    go false h = h

-- a byte before a text without line feeds
pub none_from : (t : List ℕ) (i : ℕ) → i < length t → (get_or t i 0 ≡ 10 → ⊥) → has 10 (drop (suc i) t) ≡ false → has 10 (drop i t) ≡ false
none_from t i h ne none =
    ap (has 10) (drop-cons t i 0 h) ∙ ap (λ (b : Bool). cond b true (has 10 (drop (suc i) t))) (ne_eqb (get_or t i 0) 10 ne) ∙ none
