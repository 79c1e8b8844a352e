-- The parts of a text: what stands before the first byte of a kind and behind it, as of a line break or a blank.
-- Assumes nothing.
use Rattle.std.specs.Prelude.{Bool, false, cond, List, [], ◌∷◌, ℕ, eqb}

-- what stands before the first x: the whole text where it has none
abbrev pub text_before : ℕ → List ℕ → List ℕ
text_before x [] = []
text_before x (c ∷ t) = cond (eqb c x) [] (c ∷ text_before x t)

-- what stands behind the first x: nothing where the text has none
abbrev pub text_behind : ℕ → List ℕ → List ℕ
text_behind x [] = []
text_behind x (c ∷ t) = cond (eqb c x) t (text_behind x t)

-- whether the first byte is x
abbrev pub starts_with : ℕ → List ℕ → Bool
starts_with x [] = false
starts_with x (c ∷ t) = eqb c x

-- a number's text without its minus (45)
abbrev pub unsigned : List ℕ → List ℕ
unsigned [] = []
unsigned (c ∷ t) = cond (eqb c 45) t (c ∷ t)
