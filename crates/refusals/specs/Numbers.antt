-- Document 01's number of each refusal, and the refusal of each number.
-- Assumes nothing.
use Rattle.std.specs.Prelude.{cond, List, [], ◌∷◌, ℕ, eqb, Option, Some, None}
use Rattle.refusals.specs.declared.Refusal.{Refusal}
use Rattle.refusals.specs.declared.Refusal.TheVariants.{Parity, Label, ZeroBit, Code, Digit, Value, AngleParity, Reach, Truncated, Tag, Length, Depth, Room, Sequence, Oversize}

abbrev pub number_of : Refusal → ℕ
number_of Parity = 1
number_of Label = 2
number_of ZeroBit = 3
number_of Code = 4
number_of Digit = 5
number_of Value = 6
number_of AngleParity = 7
number_of Reach = 8
number_of Truncated = 9
number_of Tag = 10
number_of Length = 11
number_of Depth = 12
number_of Room = 13
number_of Sequence = 14
number_of Oversize = 15

-- all of them
abbrev pub refusals : List Refusal
refusals =
    Parity ∷ Label ∷ ZeroBit ∷ Code ∷ Digit ∷ Value ∷ AngleParity ∷ Reach ∷ Truncated ∷ Tag ∷ Length ∷ Depth ∷ Room ∷ Sequence ∷ Oversize ∷ []

-- the refusal of a list that has this number, or none
abbrev pub numbered : List Refusal → ℕ → Option Refusal
numbered [] n = None
numbered (f ∷ fs) n = cond (eqb n (number_of f)) (Some f) (numbered fs n)

abbrev pub refusal_of : ℕ → Option Refusal
refusal_of n = numbered refusals n
