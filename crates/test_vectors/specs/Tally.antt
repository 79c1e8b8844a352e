-- The tally of a file of test vectors: how many lines it has, how many of them are wrong, and the number of the first that is, counted from 1.
-- Assumes nothing.
use Rattle.std.specs.Prelude.{ℕ, ◌+◌, ◌%◌, ◌^◌, Bool, true, false, cond, ◌==◌}
use Rattle.test_vectors.specs.declared.Tally.{Tally}

-- one more, as 64 bits count
abbrev pub one_more : ℕ → ℕ
one_more n = (n + 1) % 2 ^ 64

-- the number of the first wrong line: that of this line where none before it is wrong
abbrev pub first_wrong : ℕ → ℕ → ℕ → ℕ
first_wrong line wrong first = cond (wrong == 0) line first

-- the tally with one line more, which is right or wrong
abbrev pub with_line : Tally → Bool → Tally
with_line t true = record { lines = one_more t.lines; wrong = t.wrong; first = t.first }
with_line t false = record { lines = one_more t.lines; wrong = one_more t.wrong; first = first_wrong (one_more t.lines) t.wrong t.first }
