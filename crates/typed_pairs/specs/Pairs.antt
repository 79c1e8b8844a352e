-- What a typed line is: passed over, a word and a figure, or unread.
-- Assumes nothing.
use Rattle.std.specs.Prelude.{cond, List, [], ◌∷◌, ℕ, eqb, ltb, length, Option, Some, None, ℤ}
use Rattle.typed_words.specs.Words.{word_of}
use Rattle.typed_figures.specs.Figures.{figure_of}
use Rattle.typed_lines.specs.Lines.{skip_blanks, first_part, behind_part, without_return}
use Rattle.typed_lines.specs.TwoParts.{behind_first}
use Rattle.typed_pairs.specs.declared.TypedLine.{TypedLine}

-- a word and a figure, where both are read and nothing stands behind them
abbrev pub pair_of : Option ℕ → Option ℤ → List ℕ → TypedLine
pair_of (Some w) (Some z) [] = TypedLine.Pair w z
pair_of (Some w) (Some z) (c ∷ t) = TypedLine.Unread
pair_of (Some w) None rest = TypedLine.Unread
pair_of None figure rest = TypedLine.Unread

-- the first part a word, the second a figure, and blanks behind them
unfoldable pub pair_in : List ℕ → TypedLine
pair_in t = pair_of (word_of (first_part (skip_blanks t))) (figure_of (first_part (behind_first t))) (skip_blanks (behind_part (behind_first t)))

-- what starts a comment: `#`
abbrev pub comment_start : ℕ
comment_start = 35

-- the most bytes of a pair's line
abbrev pub longest : ℕ
longest = 200

abbrev pub content_of : List ℕ → TypedLine
content_of [] = TypedLine.Passed
content_of (c ∷ t) = cond (eqb c comment_start) TypedLine.Passed (cond (ltb longest (length (c ∷ t))) TypedLine.Unread (pair_in (c ∷ t)))

-- what a line is, without its line break
unfoldable pub line_of : List ℕ → TypedLine
line_of line = content_of (without_return line)
