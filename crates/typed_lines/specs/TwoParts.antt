-- A line of two parts: what its functions find is exactly what is typed.
-- Assumes nothing.
use Rattle.std.specs.Prelude.{◌≡◌, refl, Bool, true, false, List, [], ◌∷◌, ◌++◌, ℕ}
use Rattle.typed_lines.specs.Lines.{skip_blanks, first_part, behind_part}
use Rattle.typed_lines.specs.LineLaws.{Each, Blanks, NoBlank, Starts}

-- what is left of a line behind its first part
abbrev pub behind_first : List ℕ → List ℕ
behind_first l = skip_blanks (behind_part (skip_blanks l))

-- two parts are found in a line, and nothing but blanks behind them
pub record Found (l a b : List ℕ) : Type 0 where
  pub first : first_part (skip_blanks l) ≡ a
  pub second : first_part (behind_first l) ≡ b
  pub nothing_behind : skip_blanks (behind_part (behind_first l)) ≡ []
  pub first_there : a ≡ [] → ⊥
  pub second_there : b ≡ [] → ⊥

-- two parts without blanks are typed, with blanks between them, and perhaps before and behind
pub record Spelled (l a b : List ℕ) : Type 0 where
  pub before : List ℕ
  pub between : List ℕ
  pub behind : List ℕ
  pub before_blank : Blanks before
  pub between_blank : Blanks between
  pub between_there : between ≡ [] → ⊥
  pub behind_blank : Blanks behind
  pub first-whole : NoBlank a
  pub first_there : a ≡ [] → ⊥
  pub second-whole : NoBlank b
  pub second_there : b ≡ [] → ⊥
  pub text : l ≡ before ++ (a ++ (between ++ (b ++ behind)))

-- ---- how texts start

pub neither : (t : List ℕ) → Starts true t → Starts false t → t ≡ []
neither [] h k = refl
neither (c ∷ t) h k = absurd (k h)

pub each_starts : (blanks : Bool) (s : List ℕ) → Each blanks s → Starts blanks s
each_starts blanks [] h = tt
each_starts blanks (c ∷ s) h = h.0

pub joined_starts : (blanks : Bool) (s t : List ℕ) → (s ≡ [] → ⊥) → Each blanks s → Starts blanks (s ++ t)
joined_starts blanks [] t n h = absurd (n refl)
joined_starts blanks (c ∷ s) t n h = h.0

-- ---- the law
