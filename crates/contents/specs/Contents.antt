-- The contents of word and figure fields as document 01 gives them, what is read of any bytes, and that each gives the other back.
-- Assumes nothing.
use Rattle.std.specs.Prelude.{cond, List, ◌∷◌, ℕ, eqb, ℤ, length, get_or, drop, Result, Ok, Err}
use Rattle.refusals.specs.declared.Refusal.{Refusal}
use Rattle.bits.specs.Complement.{signed, complement}
use Rattle.contents.specs.BigEndian.{big_endian, value_of}

-- a word: 4 bytes, high first
abbrev pub word_bytes : ℕ → List ℕ
word_bytes w = big_endian 4 w

-- a figure: 9 bytes, the label as a number, then the millionths in two's complement
abbrev pub figure_bytes : ℕ → ℤ → List ℕ
figure_bytes label m = label ∷ big_endian 8 (complement 64 m)

-- the word in a content; 11 unless it has 4 bytes
abbrev pub word_in : List ℕ → Result ℕ Refusal
word_in bs = cond (eqb (length bs) 4) (Ok (value_of bs)) (Err Refusal.Length)

-- the figure in a content; 11 unless it has 9 bytes
abbrev pub figure_in : List ℕ → Result (ℕ × ℤ) Refusal
figure_in bs = cond (eqb (length bs) 9) (Ok (get_or bs 0 0, signed 64 (value_of (drop 1 bs)))) (Err Refusal.Length)

-- ---- a written word or figure is read again

-- ---- what is read is what was written: no other bytes hold the same word or figure
