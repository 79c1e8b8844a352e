-- How a note's text is read from what is shown of it, with its escapes.
-- Assumes nothing.
use Rattle.std.specs.Prelude.{cond, List, [], ◌∷◌, ℕ, zero, suc, ◌≤◌, eqb, take, drop}
use Rattle.hex_texts.specs.Reading.{hex_value}

-- a backslash stands, with the three bytes behind it, for the byte whose hex digits are the last two of them; any other byte for itself. The number says how many bytes are passed over first.
abbrev pub unescaped_from : ℕ → List ℕ → List ℕ
unescaped_from n [] = []
unescaped_from zero (c ∷ t) = cond (eqb c 92) (hex_value (take 2 (drop 1 t)) ∷ unescaped_from 3 t) (c ∷ unescaped_from 0 t)
unescaped_from (suc n) (c ∷ t) = unescaped_from n t

abbrev pub unescaped : List ℕ → List ℕ
unescaped t = unescaped_from 0 t

-- each is printable ASCII, the blank among it
abbrev pub Printable : List ℕ → Type 0
Printable [] = Unit {0}
Printable (c ∷ t) = ((0x20 ≤ c) × (c ≤ 0x7E)) × Printable t
