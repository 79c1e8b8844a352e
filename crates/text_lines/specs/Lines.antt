-- The lines of a text, each of which a line feed ends, and the line that a text leaves off in.
-- Assumes nothing.
use Rattle.std.specs.Prelude.{Bool, true, false, cond, List, [], ◌∷◌, ◌++◌, ℕ, eqb}
use Rattle.typed_texts.specs.TextLaws.{has}

-- a byte before the first line; alone it is a line
abbrev pub on_first : ℕ → List (List ℕ) → List (List ℕ)
on_first c [] = (c ∷ []) ∷ []
on_first c (l ∷ ls) = (c ∷ l) ∷ ls

-- the lines of a text, without their line feeds; a last one without its line feed is a line if it has a byte
abbrev pub lines_of : List ℕ → List (List ℕ)
lines_of [] = []
lines_of (c ∷ t) = cond (eqb c 10) ([] ∷ lines_of t) (on_first c (lines_of t))

-- the text of lines, a line feed behind each
abbrev pub text_of : List (List ℕ) → List ℕ
text_of [] = []
text_of (l ∷ ls) = l ++ (10 ∷ text_of ls)

-- whether one of the lines has the byte x
abbrev pub some_has : ℕ → List (List ℕ) → Bool
some_has x [] = false
some_has x (l ∷ ls) = cond (has x l) true (some_has x ls)

-- whether the last byte is a line feed, and `before` where there is none
abbrev pub ends_from : Bool → List ℕ → Bool
ends_from before [] = before
ends_from before (c ∷ t) = ends_from (eqb c 10) t

-- whether no line is begun: a text without a byte, or with a line feed as its last
abbrev pub ended : List ℕ → Bool
ended t = ends_from true t

-- a text up to its last line feed
abbrev pub whole_lines : List ℕ → List ℕ
whole_lines [] = []
whole_lines (c ∷ t) = cond (has 10 (c ∷ t)) (c ∷ whole_lines t) []

-- the line that is begun behind it
abbrev pub begun_line : List ℕ → List ℕ
begun_line [] = []
begun_line (c ∷ t) = cond (has 10 (c ∷ t)) (begun_line t) (c ∷ t)
