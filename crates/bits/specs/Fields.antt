-- Fields of a word by bit numbers, as document 01 counts them: bit k weighs 2^(k-1).
-- Assumes nothing.
use Rattle.std.specs.Prelude.{ℕ, ◌+◌, ◌-◌, ◌/◌, ◌%◌, ◌^◌}

-- the n binary digits of w from place o on, where place 0 is the lowest
abbrev pub digits : ℕ → ℕ → ℕ → ℕ
digits o n w = w / 2 ^ o % 2 ^ n

-- bits a to b of the word w, as a number
abbrev pub bits : ℕ → ℕ → ℕ → ℕ
bits a b w = digits (a - 1) (b + 1 - a) w
