-- What makes the definitions of `Lines` believable: the parts are the text, the first has no blank, and what stands behind it starts with one.
-- Assumes nothing.
use Rattle.std.specs.Prelude.{◌≡◌, refl, Bool, true, false, cond, ◌⊎◌, List, [], ◌∷◌, ◌++◌, ℕ}
use Rattle.std.proofs.Common.{ap}
use Rattle.typed_lines.specs.Lines.{in_run, run_of, behind_run, first_part, behind_part}

-- ---- blanks, apart from the test of them

abbrev pub Blank : ℕ → Type 0
Blank c = (c ≡ 32) ⊎ (c ≡ 9)

-- a blank (true), or none (false)
abbrev pub Of : Bool → ℕ → Type 0
Of true c = Blank c
Of false c = Blank c → ⊥

abbrev pub Each : Bool → List ℕ → Type 0
Each blanks [] = Unit {0}
Each blanks (c ∷ t) = Of blanks c × Each blanks t

-- every byte is a blank; none is
abbrev pub Blanks : List ℕ → Type 0
Blanks t = Each true t

abbrev pub NoBlank : List ℕ → Type 0
NoBlank t = Each false t

-- empty, or starting with a blank (true) or with none (false)
abbrev pub Starts : Bool → List ℕ → Type 0
Starts blanks [] = Unit {0}
Starts blanks (c ∷ t) = Of blanks c

-- ---- the test of a byte

-- ---- a run and what stands behind it

pub run_joined : (blanks : Bool) (t : List ℕ) → run_of blanks t ++ behind_run blanks t ≡ t
run_joined blanks [] = refl
run_joined blanks (c ∷ t) = by (in_run blanks c) (run_joined blanks t)
  where
    by : (b : Bool) → run_of blanks t ++ behind_run blanks t ≡ t → cond b (c ∷ run_of blanks t) [] ++ cond b (behind_run blanks t) (c ∷ t) ≡ c ∷ t
    by true e = ap (λ (r : List ℕ). c ∷ r) e
    by false e = refl

-- ---- the laws of the parts

-- The first part and what stands behind it are the text.
pub parts-joined : (t : List ℕ) → first_part t ++ behind_part t ≡ t
parts-joined t = run_joined false t

-- ---- the laws of the carriage return
