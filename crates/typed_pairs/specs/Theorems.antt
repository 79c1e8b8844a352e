-- A line is a pair exactly where a word and a figure are typed in it, and is passed over exactly where it is empty or a comment; a longer line may be cut.
-- Assumes nothing.
use Rattle.std.specs.Prelude.{◌≡◌, List, [], ◌∷◌, ◌++◌, ℕ, suc, ◌≤◌, ◌<◌, ℤ, length, get_or, Option, Some, None}
use Rattle.std.proofs.Common.{sym, ap, ap₂, ◌∙◌, inl, inr, arith}
use Rattle.typed_texts.specs.Numbers.{digit_of}
use Rattle.typed_words.specs.Words.{word_of}
use Rattle.typed_words.specs.Eight.{AreDigits}
use Rattle.typed_words.proofs.Lemmas.{digit_there}
use Rattle.typed_words.proofs.Theorems.{word_exactly}
use Rattle.typed_figures.specs.Figures.{parts_read, figure_of}
use Rattle.typed_figures.proofs.Theorems.{typed_exactly}
use Rattle.typed_lines.specs.Lines.{skip_blanks, first_part, behind_part, without_return}
use Rattle.typed_lines.specs.LineLaws.{Blanks}
use Rattle.typed_lines.specs.TwoParts.{behind_first}
use Rattle.typed_lines.proofs.TwoParts.{two_parts}
use Rattle.typed_pairs.specs.declared.TypedLine.{TypedLine}
use Rattle.typed_pairs.specs.Pairs.{pair_of, pair_in}
use Rattle.typed_pairs.specs.PairLines.{PairLine}

-- ---- the pair of two parts

pair_not-passed : (word : Option ℕ) (figure : Option ℤ) (rest : List ℕ) → pair_of word figure rest ≡ TypedLine.Passed → ⊥
pair_not-passed (Some v) (Some y) [] e = let k : ◌≡◌ {A = ℕ} 0 1 = cc in absurd (omega arith)
pair_not-passed (Some v) (Some y) (c ∷ t) e = let k : ◌≡◌ {A = ℕ} 0 1 = cc in absurd (omega arith)
pair_not-passed (Some v) None rest e = let k : ◌≡◌ {A = ℕ} 0 1 = cc in absurd (omega arith)
pair_not-passed None figure rest e = let k : ◌≡◌ {A = ℕ} 0 1 = cc in absurd (omega arith)

pub not-passed : (t : List ℕ) → pair_in t ≡ TypedLine.Passed → ⊥
unfolding pair_in
not-passed t e = pair_not-passed (word_of (first_part (skip_blanks t))) (figure_of (first_part (behind_first t))) (skip_blanks (behind_part (behind_first t))) e

-- no figure is empty
pub no_figure : (z : ℤ) → figure_of [] ≡ Some z → ⊥
unfolding figure_of parts_read
no_figure z e = let k : ◌≡◌ {A = ℕ} 0 1 = cc in absurd (omega arith)

pub parts_read_lem : (t : List ℕ) (w : ℕ) (z : ℤ) → PairLine t w z → pair_in t ≡ TypedLine.Pair w z
unfolding pair_in
parts_read_lem t w z p =
    let f = (two_parts t p.word p.figure).1 p.parts in
    ap₂ (λ (x : Option ℕ) (y : Option ℤ). pair_of x y (skip_blanks (behind_part (behind_first t))))
    (ap word_of f.first ∙ (word_exactly p.word w).1 p.eight)
    (ap figure_of f.second ∙ (typed_exactly p.figure z).1 p.typed)
    ∙ ap (pair_of (Some w) (Some z)) f.nothing_behind

-- ---- the first byte

-- a line of a pair starts with a blank or a digit, so it is no comment
digit_no_comment : (c d : ℕ) → digit_of c ≡ d → d < 16 → c ≡ 35 → ⊥
unfolding digit_of
digit_no_comment c d e h k = let n : digit_of 35 ≡ d = ap digit_of (sym k) ∙ e in omega (arith, n)

pub no_comment : (before a m ds : List ℕ) → Blanks before → length a ≡ 8 → AreDigits a ds
    → (length (before ++ (a ++ m)) ≡ 0 → ⊥) × (get_or (before ++ (a ++ m)) 0 0 ≡ 35 → ⊥)
no_comment (b ∷ before) a m ds (inl h, more) n are = (λ k. omega arith, λ k. omega arith)
no_comment (b ∷ before) a m ds (inr h, more) n are = (λ k. omega arith, λ k. omega arith)
no_comment [] [] m ds h n are = absurd (omega arith)
no_comment [] (c ∷ a) m [] h n are = absurd are
no_comment [] (c ∷ a) m (d ∷ ds) h n are = (λ k. omega arith, λ k. digit_no_comment c d (digit_there c d are.0) are.0.0 k)

-- ---- the content

-- ---- the laws

-- ---- a line that is too long

pub without_return_length : (l : List ℕ) → length l ≤ suc (length (without_return l))
without_return_length [] = omega arith
without_return_length (c ∷ []) = omega arith
without_return_length (c ∷ d ∷ l) = omega (arith, without_return_length (d ∷ l))
