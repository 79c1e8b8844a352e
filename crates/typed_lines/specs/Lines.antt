-- The parts of a typed line: blanks and tabs part it, and one carriage return may end it.
-- Assumes nothing.
use Rattle.std.specs.Prelude.{Bool, true, false, not, cond, ◌||◌, List, [], ◌∷◌, ℕ, eqb}

-- a blank (32) or a tab (9)
abbrev pub is_blank : ℕ → Bool
is_blank c = eqb c 32 || eqb c 9

-- a byte belongs to a run of blanks (true), or to one of other bytes (false)
abbrev pub in_run : Bool → ℕ → Bool
in_run true c = is_blank c
in_run false c = not (is_blank c)

-- the run at the start of a text, and what stands behind it
abbrev pub run_of : Bool → List ℕ → List ℕ
run_of blanks [] = []
run_of blanks (c ∷ t) = cond (in_run blanks c) (c ∷ run_of blanks t) []

abbrev pub behind_run : Bool → List ℕ → List ℕ
behind_run blanks [] = []
behind_run blanks (c ∷ t) = cond (in_run blanks c) (behind_run blanks t) (c ∷ t)

-- a text without the blanks at its start
abbrev pub skip_blanks : List ℕ → List ℕ
skip_blanks t = behind_run true t

-- what stands before the first blank: the whole text where there is none
abbrev pub first_part : List ℕ → List ℕ
first_part t = run_of false t

-- a text from its first blank on: nothing where there is none
abbrev pub behind_part : List ℕ → List ℕ
behind_part t = behind_run false t

abbrev pub carriage_return : ℕ
carriage_return = 13

-- a line without one carriage return at its end
abbrev pub without_return : List ℕ → List ℕ
without_return [] = []
without_return (c ∷ []) = cond (eqb c carriage_return) [] (c ∷ [])
without_return (c ∷ d ∷ t) = c ∷ without_return (d ∷ t)
