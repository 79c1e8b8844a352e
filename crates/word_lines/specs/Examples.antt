-- The lines of document 01's starred words, as the definitions compute them.
-- Assumes nothing.
use Rattle.std.specs.Prelude.{List, [], ◌∷◌, ℕ}

unfoldable pub words : List ℕ
words = 0xE8000049 ∷ 0xFC000049 ∷ 0x640000DE ∷ 0x7FFF00DE ∷ 0x04C80038 ∷ 0x841C0078 ∷ 0xEB3C00D6 ∷ 0xEB4400D6 ∷ 0x69400036 ∷ 0xE1400036 ∷ 0xE8000048 ∷ []
