-- Worked lines: a course deviation of 0.1 (label 173, ready) beside figures of each of the nine reasons, and lines that are refused, unread and passed over.
-- Assumes nothing.
use Rattle.std.specs.Prelude.{List, [], ◌∷◌, ℕ}
use Rattle.text.specs.Ascii.{ascii}

-- a line, and its answer as line 4
pub record Worked : Type 0 where
  pub line : List ℕ
  pub answer : List ℕ

abbrev worked : List ℕ → List ℕ → Worked
worked line answer = record { line = line; answer = answer }

abbrev pub lines : List Worked
lines =
    worked (ascii "640000DE 0.1") (ascii "640000DE 0.100000: agrees\n")
    ∷ worked (ascii "640000de\t1.0") (ascii "640000DE 1.000000: a tenth agrees; the word says 0.100000\n")
    ∷ worked (ascii "640000DE 10") (ascii "640000DE 10.000000: a hundredth agrees; the word says 0.100000\n")
    ∷ worked (ascii "640000DE 100") (ascii "640000DE 100.000000: a thousandth agrees; the word says 0.100000\n")
    ∷ worked (ascii "640000DE +,01") (ascii "640000DE 0.010000: ten times it agrees; the word says 0.100000\n")
    ∷ worked (ascii "640000DE 0.001") (ascii "640000DE 0.001000: a hundred times it agrees; the word says 0.100000\n")
    ∷ worked (ascii "640000DE 0.0001") (ascii "640000DE 0.000100: a thousand times it agrees; the word says 0.100000\n")
    ∷ worked (ascii "640000DE -0.1") (ascii "640000DE -0.100000: the other sign agrees; the word says 0.100000\n")
    ∷ worked (ascii "640000DE 0.2") (ascii "640000DE 0.200000: none of these; the word says 0.100000\n")
    ∷ worked (ascii "E8000048 90") (ascii "E8000048 90.000000: refused 1\n")
    ∷ worked (ascii "640000DE") (ascii "line 4: no word and figure\n")
    ∷ worked (ascii "# a comment") []
    ∷ []
