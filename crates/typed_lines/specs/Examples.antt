-- A line taken apart: what the definitions compute to.
-- Assumes nothing.
use Rattle.std.specs.Prelude.{◌≡◌, refl, [], ◌∷◌}
use Rattle.typed_lines.specs.Lines.{skip_blanks}

-- ` a`, a tab and `b `: without the blank at its start, its first part, and what stands behind that
skipped : skip_blanks (32 ∷ 97 ∷ 9 ∷ 98 ∷ 32 ∷ []) ≡ 97 ∷ 9 ∷ 98 ∷ 32 ∷ []
skipped = refl
