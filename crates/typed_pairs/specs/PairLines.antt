-- What the lines must be, apart from how they are read.
-- Assumes nothing.
use Rattle.std.specs.Prelude.{◌≡◌, ◌⊎◌, List, [], ◌∷◌, ℕ, ◌≤◌, ℤ, length}
use Rattle.typed_words.specs.Eight.{Eight}
use Rattle.typed_figures.specs.Grammar.{Typed}
use Rattle.typed_lines.specs.TwoParts.{Spelled}

-- a line of at most 200 bytes: a word in eight digits, and a figure, with blanks between them, and perhaps before and behind
pub record PairLine (line : List ℕ) (w : ℕ) (z : ℤ) : Type 0 where
  pub word : List ℕ
  pub figure : List ℕ
  pub short : length line ≤ 200
  pub parts : Spelled line word figure
  pub eight : Eight word w
  pub typed : Typed figure z

-- a line that is passed over: empty, or `#` (35) and anything behind it
abbrev pub PassedLine : List ℕ → Type 0
PassedLine line = (line ≡ []) ⊎ ((rest : List ℕ) × (line ≡ 35 ∷ rest))
