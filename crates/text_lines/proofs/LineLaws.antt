-- What makes the definitions of `Lines` believable: no line has a line feed, the lines are the text, lines written and read are the same, and a text is taken apart at any line feed.
-- Assumes nothing.
use Rattle.std.specs.Prelude.{◌≡◌, refl, Bool, true, false, cond, List, [], ◌∷◌, ◌++◌, ℕ, zero, suc, ◌<◌, eqb, length, drop, get_or}
use Rattle.std.proofs.Common.{sym, ap, ◌∙◌, arith, eqb-true, eq-eqb}
use Rattle.typed_texts.specs.Texts.{text_before, text_behind}
use Rattle.typed_texts.specs.TextLaws.{has}
use Rattle.text_lines.specs.Lines.{on_first, lines_of, text_of, some_has, ends_from, ended, whole_lines, begun_line}
use Rattle.text_lines.specs.LineLaws.{feed_for, has-at}

-- a text with a byte starts with the line before its first line feed, and the others stand behind it
first_line : (c : ℕ) (t : List ℕ) → lines_of (c ∷ t) ≡ text_before 10 (c ∷ t) ∷ lines_of (text_behind 10 (c ∷ t))
first_line c [] = go (eqb c 10)
  where
    go : (b : Bool) → cond b ([] ∷ []) ((c ∷ []) ∷ []) ≡ cond b [] (c ∷ []) ∷ lines_of (cond b [] [])
    go true = refl
    go false = refl
first_line c (d ∷ t) = go (eqb c 10) (first_line d t)
  where
    go : (b : Bool) → lines_of (d ∷ t) ≡ text_before 10 (d ∷ t) ∷ lines_of (text_behind 10 (d ∷ t))
        → cond b ([] ∷ lines_of (d ∷ t)) (on_first c (lines_of (d ∷ t))) ≡ cond b [] (c ∷ text_before 10 (d ∷ t)) ∷ lines_of (cond b (d ∷ t) (text_behind 10 (d ∷ t)))
    go true e = refl
    go false e = ap (on_first c) e

-- The first line stands before the first line feed, and the others behind it.
pub by_lines : (t : List ℕ) → 0 < length t → lines_of t ≡ text_before 10 t ∷ lines_of (text_behind 10 t)
by_lines [] h = absurd (omega arith)
by_lines (c ∷ t) h = first_line c t

first-has : (c : ℕ) (ls : List (List ℕ)) → eqb c 10 ≡ false → some_has 10 ls ≡ false → some_has 10 (on_first c ls) ≡ false
first-has c [] e h = rw e refl
first-has c (l ∷ ls) e h = rw e h

-- No line has a line feed.
pub no_feed_within : (t : List ℕ) → some_has 10 (lines_of t) ≡ false
no_feed_within [] = refl
no_feed_within (c ∷ t) = go (eqb c 10) refl (no_feed_within t)
  where
    go : (b : Bool) → eqb c 10 ≡ b → some_has 10 (lines_of t) ≡ false → some_has 10 (cond b ([] ∷ lines_of t) (on_first c (lines_of t))) ≡ false
    go true e h = h
    go false e h = first-has c (lines_of t) e h

text_first : (c : ℕ) (d : ℕ) (t : List ℕ) → text_of (on_first c (lines_of (d ∷ t))) ≡ c ∷ text_of (lines_of (d ∷ t))
text_first c d t = ap (λ (ls : List (List ℕ)). text_of (on_first c ls)) (first_line d t) ∙ ap (λ (ls : List (List ℕ)). c ∷ text_of ls) (sym (first_line d t))

-- The lines, each with a line feed behind, are the text, with one more line feed where a line was begun.
pub lines_text : (t : List ℕ) → text_of (lines_of t) ≡ t ++ feed_for (ended t)
lines_text [] = refl
lines_text (c ∷ t) = go (eqb c 10) refl t (lines_text t)
  where
    go : (b : Bool) → eqb c 10 ≡ b → (t : List ℕ) → text_of (lines_of t) ≡ t ++ feed_for (ended t)
        → text_of (cond b ([] ∷ lines_of t) (on_first c (lines_of t))) ≡ c ∷ (t ++ feed_for (ends_from b t))
    go true e [] h = ap (λ (x : ℕ). x ∷ []) (sym (eqb-true c 10 e))
    go true e (d ∷ t) h = ap (λ (x : ℕ). x ∷ text_of (lines_of (d ∷ t))) (sym (eqb-true c 10 e)) ∙ ap (λ (r : List ℕ). c ∷ r) h
    go false e [] h = refl
    go false e (d ∷ t) h = text_first c d t ∙ ap (λ (r : List ℕ). c ∷ r) h

on_first-append : (c d : ℕ) (s : List ℕ) (ls : List (List ℕ)) → on_first c (lines_of (d ∷ s) ++ ls) ≡ on_first c (lines_of (d ∷ s)) ++ ls
on_first-append c d s ls =
    ap (λ (x : List (List ℕ)). on_first c (x ++ ls)) (first_line d s) ∙ ap (λ (x : List (List ℕ)). on_first c x ++ ls) (sym (first_line d s))

-- Behind a line feed new lines begin.
pub lines-append : (s t : List ℕ) → ended s ≡ true → lines_of (s ++ t) ≡ lines_of s ++ lines_of t
lines-append [] t h = refl
lines-append (c ∷ s) t h = go (eqb c 10) s h (lines-append s t)
  where
    go : (b : Bool) (s : List ℕ) → ends_from b s ≡ true → (ended s ≡ true → lines_of (s ++ t) ≡ lines_of s ++ lines_of t)
        → cond b ([] ∷ lines_of (s ++ t)) (on_first c (lines_of (s ++ t))) ≡ cond b ([] ∷ lines_of s) (on_first c (lines_of s)) ++ lines_of t
    go true s h later = ap (λ (r : List (List ℕ)). [] ∷ r) (later h)
    go false [] h later = let z : ◌≡◌ {A = ℕ} 0 1 = cc in absurd (omega arith)
    go false (d ∷ s) h later = ap (on_first c) (later h) ∙ on_first-append c d s (lines_of t)

none-whole : (t : List ℕ) → has 10 t ≡ false → whole_lines t ≡ []
none-whole [] h = refl
none-whole (c ∷ t) h = rw h refl

-- The whole lines and the begun one are the text.
pub whole_begun : (t : List ℕ) → whole_lines t ++ begun_line t ≡ t
whole_begun [] = refl
whole_begun (c ∷ t) = go (has 10 (c ∷ t)) (whole_begun t)
  where
    go : (b : Bool) → whole_lines t ++ begun_line t ≡ t → cond b (c ∷ whole_lines t) [] ++ cond b (begun_line t) (c ∷ t) ≡ c ∷ t
    go true h = ap (λ (r : List ℕ). c ∷ r) h
    go false h = refl

-- the last byte alone tells whether a text ends with a line feed, if there is one
ends_alike : (b : Bool) (t : List ℕ) → has 10 t ≡ true → ends_from b (whole_lines t) ≡ ended (whole_lines t)
ends_alike b [] h = let z : ◌≡◌ {A = ℕ} 0 1 = cc in absurd (omega arith)
ends_alike b (d ∷ t) h = rw h refl

-- The whole lines end with a line feed, if there are any.
pub whole-ended : (t : List ℕ) → ended (whole_lines t) ≡ true
whole-ended [] = refl
whole-ended (c ∷ t) = go (eqb c 10) (has 10 t) refl refl (whole-ended t)
  where
    go : (a b : Bool) → eqb c 10 ≡ a → has 10 t ≡ b → ended (whole_lines t) ≡ true → ended (cond (cond a true b) (c ∷ whole_lines t) []) ≡ true
    go true b e f h = ap (λ (x : Bool). ends_from x (whole_lines t)) e ∙ h
    go false true e f h = ends_alike (eqb c 10) t f ∙ h
    go false false e f h = refl

-- A line feed with none behind it ends the whole lines.
pub whole_length : (t : List ℕ) (i : ℕ) → i < length t → get_or t i 0 ≡ 10 → has 10 (drop (suc i) t) ≡ false → length (whole_lines t) ≡ suc i
whole_length [] i h e none = absurd (omega arith)
whole_length (c ∷ t) zero h e none = rw (eq-eqb c 10 e) (ap (λ (l : List ℕ). suc (length l)) (none-whole t none))
whole_length (c ∷ t) (suc i) h e none =
    ap (λ (b : Bool). length (cond b (c ∷ whole_lines t) [])) (has-at 10 (c ∷ t) (suc i) h e) ∙ ap suc (whole_length t i (omega arith) e none)

-- none at all
pub none-whole-length : (t : List ℕ) → has 10 t ≡ false → length (whole_lines t) ≡ 0
none-whole-length t h = ap length (none-whole t h)
