-- A line taken apart: what the definitions compute to.
-- Assumes nothing.
use Rattle.std.specs.Prelude.{◌≡◌, refl, [], ◌∷◌}
use Rattle.typed_lines.specs.Lines.{first_part, behind_part, without_return}

first : first_part (97 ∷ 9 ∷ 98 ∷ 32 ∷ []) ≡ 97 ∷ []
first = refl

behind : behind_part (97 ∷ 9 ∷ 98 ∷ 32 ∷ []) ≡ 9 ∷ 98 ∷ 32 ∷ []
behind = refl

-- of two carriage returns at the end one is left
one_left : without_return (97 ∷ 13 ∷ 13 ∷ []) ≡ 97 ∷ 13 ∷ []
one_left = refl
