-- What a line of the test vectors says of a word: the number of its refusal, 0 where it is accepted, and its count, 0 where it has none.
-- Assumes nothing.
use Rattle.std.specs.Prelude.{Bool, not, ◌&&◌, ℕ, suc, eqb, ℤ, pos, negsuc}
use Rattle.decode.specs.Decode.{decode_of}
use Rattle.pages.specs.Page.{refusal_in, count_of}
use Rattle.test_words.specs.declared.Expected.{Expected}

-- a number is written with this sign and size
abbrev pub written : ℤ → Bool → ℕ → Bool
written (pos n) negative size = not negative && eqb n size
written (negsuc n) negative size = negative && eqb (suc n) size

-- a line is right about its word
abbrev pub right : Expected → Bool
right e =
    eqb (refusal_in (decode_of e.word)) e.refusal && written (count_of (decode_of e.word)) e.negative e.size
