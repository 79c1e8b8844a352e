-- How hex digits are read: each means its place in the list of them.
-- Assumes nothing.
use Rattle.std.specs.Prelude.{cond, List, [], ◌∷◌, ℕ, suc, ◌+◌, ◌*◌, eqb}
use Rattle.text.specs.Ascii.{ascii}

-- the digits, each at the place that is its value
abbrev pub hex_digits : List ℕ
hex_digits = ascii "0123456789ABCDEF"

-- how many stand before this one
abbrev pub place_in : List ℕ → ℕ → ℕ
place_in [] c = 0
place_in (d ∷ ds) c = cond (eqb c d) 0 (suc (place_in ds c))

-- the number that digits mean behind one that was read, and by themselves
abbrev pub hex_from : ℕ → List ℕ → ℕ
hex_from v [] = v
hex_from v (c ∷ t) = hex_from (v * 16 + place_in hex_digits c) t

abbrev pub hex_value : List ℕ → ℕ
hex_value t = hex_from 0 t
