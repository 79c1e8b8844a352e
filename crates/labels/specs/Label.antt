-- The label of a word: bits 1 to 8, and bit 1 is its HIGHEST binary digit. Bit k weighs 2^(8-k) in the label.
--
--     bit k of the word         1    2    3    4    5    6    7    8
--     weighs in the label     128   64   32   16    8    4    2    1
--     in words of label 222     1    0    0    1    0    0    1    0     128 + 16 + 2 = 146, which is 222 in octal
--
-- That the label is the one it was before, and that turning it gives the byte back, is in `LabelLaws`.
-- Assumes nothing.
use Rattle.std.specs.Prelude.{ℕ, zero, suc, ◌+◌, ◌-◌, ◌*◌, ◌/◌, ◌%◌, ◌^◌}

-- bit k of a number, in which it weighs 2^(k-1)
abbrev pub bit : ℕ → ℕ → ℕ
bit k w = w / 2 ^ (k - 1) % 2

-- bits 1 to n, bit k weighed 2^(8-k), and added
abbrev pub label_to : ℕ → ℕ → ℕ
label_to zero w = 0
label_to (suc n) w = label_to n w + bit (suc n) w * 2 ^ (8 - suc n)

-- the label: bits 1 to 8
abbrev pub label_of : ℕ → ℕ
label_of w = label_to 8 w
