-- A line is a pair exactly where a word and a figure are typed in it, and is passed over exactly where it is empty or a comment; a longer line may be cut.
-- Assumes nothing.
use Rattle.std.specs.Prelude.{◌≡◌, refl, Bool, true, false, cond, ◌↔◌, List, [], ◌∷◌, ◌++◌, ℕ, zero, suc, ◌^◌, ◌≤◌, ◌<◌, eqb, ltb, ℤ, length, take, get_or, Option, Some, None}
use Rattle.std.proofs.Common.{sym, ap, ◌∙◌, inl, inr, arith, eqb-true, ltb-false, lt-ltb, length-append, length-take}
use Rattle.signed_numbers.specs.Signed.{Fits}
use Rattle.typed_words.specs.Words.{word_of}
use Rattle.typed_words.proofs.Theorems.{word_exactly, word_within}
use Rattle.typed_figures.specs.Figures.{figure_of}
use Rattle.typed_figures.proofs.Theorems.{typed_exactly}
use Rattle.typed_lines.specs.Lines.{skip_blanks, first_part, behind_part, without_return}
use Rattle.typed_lines.specs.TwoParts.{behind_first, Found}
use Rattle.typed_lines.proofs.TwoParts.{two_parts}
use Rattle.typed_pairs.specs.declared.TypedLine.{TypedLine}
use Rattle.typed_pairs.specs.Pairs.{pair_of, pair_in, content_of, line_of}
use Rattle.typed_pairs.specs.Lemmas.{pair_content}
use Rattle.typed_pairs.specs.PairLines.{PairLine, PassedLine}
use Rattle.typed_pairs.specs.Theorems.{not-passed, no_figure, parts_read_lem, no_comment, without_return_length}

pair_there : (word : Option ℕ) (figure : Option ℤ) (rest : List ℕ) (w : ℕ) (z : ℤ) → pair_of word figure rest ≡ TypedLine.Pair w z
    → (word ≡ Some w) × ((figure ≡ Some z) × (rest ≡ []))
pair_there (Some v) (Some y) [] w z e = (cc, (cc, refl))
pair_there (Some v) (Some y) (c ∷ t) w z e = let k : ◌≡◌ {A = ℕ} 0 1 = cc in absurd (omega arith)
pair_there (Some v) None rest w z e = let k : ◌≡◌ {A = ℕ} 0 1 = cc in absurd (omega arith)
pair_there None figure rest w z e = let k : ◌≡◌ {A = ℕ} 0 1 = cc in absurd (omega arith)

parts-found : (t : List ℕ) (w : ℕ) (z : ℤ) → pair_in t ≡ TypedLine.Pair w z → length t ≤ 200 → PairLine t w z
unfolding pair_in
parts-found t w z e short =
    let a = first_part (skip_blanks t) in
    let b = first_part (behind_first t) in
    let p = pair_there (word_of a) (figure_of b) (skip_blanks (behind_part (behind_first t))) w z e in
    let eight = (word_exactly a w).0 p.0 in
    let found : Found t a b = record {
      first = refl;
      second = refl;
      nothing_behind = p.1.1;
      first_there = λ (k : a ≡ []). omega (arith, eight.0, ap length k);
      second_there = λ (k : b ≡ []). no_figure z (ap figure_of (sym k) ∙ p.1.0);
    } in
    record { word = a; figure = b; short = short; parts = (two_parts t a b).0 found; eight = eight; typed = (typed_exactly b z).0 p.1.0 }

content_there : (t : List ℕ) (w : ℕ) (z : ℤ) → content_of t ≡ TypedLine.Pair w z → PairLine t w z
content_there [] w z e = let k : ◌≡◌ {A = ℕ} 0 1 = cc in absurd (omega arith)
content_there (c ∷ t) w z e = by (eqb c 35) (ltb 200 (length (c ∷ t))) refl e
  where
    by : (a b : Bool) → ltb 200 (length (c ∷ t)) ≡ b → cond a TypedLine.Passed (cond b TypedLine.Unread (pair_in (c ∷ t))) ≡ TypedLine.Pair w z → PairLine (c ∷ t) w z
    by true b f e = let k : ◌≡◌ {A = ℕ} 0 1 = cc in absurd (omega arith)
    by false true f e = let k : ◌≡◌ {A = ℕ} 0 1 = cc in absurd (omega arith)
    by false false f e = parts-found (c ∷ t) w z e (ltb-false 200 (length (c ∷ t)) f)

content_read : (t : List ℕ) (w : ℕ) (z : ℤ) → PairLine t w z → content_of t ≡ TypedLine.Pair w z
content_read t w z p =
    let s = p.parts in
    let starts = no_comment s.before p.word (s.between ++ (p.figure ++ s.behind)) p.eight.1.0 s.before_blank p.eight.0 p.eight.1.1 in
    pair_content t (λ k. starts.0 (ap length (sym s.text) ∙ k)) (λ k. starts.1 (ap (λ (r : List ℕ). get_or r 0 0) (sym s.text) ∙ k)) p.short
    ∙ parts_read_lem t w z p

content-passed : (t : List ℕ) → content_of t ≡ TypedLine.Passed → PassedLine t
content-passed [] e = inl refl
content-passed (c ∷ t) e = by (eqb c 35) (ltb 200 (length (c ∷ t))) refl e
  where
    by : (a b : Bool) → eqb c 35 ≡ a → cond a TypedLine.Passed (cond b TypedLine.Unread (pair_in (c ∷ t))) ≡ TypedLine.Passed → PassedLine (c ∷ t)
    by true b f e = inr (t, ap (λ (x : ℕ). x ∷ t) (eqb-true c 35 f))
    by false true f e = let k : ◌≡◌ {A = ℕ} 0 1 = cc in absurd (omega arith)
    by false false f e = absurd (not-passed (c ∷ t) e)

passed-content : (t : List ℕ) → PassedLine t → content_of t ≡ TypedLine.Passed
passed-content t (inl e) = ap content_of e
passed-content t (inr (rest, e)) = ap content_of e

-- A line is a pair exactly where its word and its figure are typed in it.
pub pair_exactly : (l : List ℕ) (w : ℕ) (z : ℤ) → (line_of l ≡ TypedLine.Pair w z) ↔ PairLine (without_return l) w z
unfolding line_of
pair_exactly l w z = (content_there (without_return l) w z, content_read (without_return l) w z)

-- A line is passed over exactly where it is empty or a comment.
pub passed_exactly : (l : List ℕ) → (line_of l ≡ TypedLine.Passed) ↔ PassedLine (without_return l)
unfolding line_of
passed_exactly l = (content-passed (without_return l), passed-content (without_return l))

-- The word of a pair has 32 bits, and 64 bits hold its figure.
pub pair_within : (l : List ℕ) (w : ℕ) (z : ℤ) → line_of l ≡ TypedLine.Pair w z → (w < 2 ^ 32) × Fits z
pair_within l w z e =
    let p = (pair_exactly l w z).0 e in
    (word_within p.word w ((word_exactly p.word w).1 p.eight), p.typed.fits)

-- Its answer is that of its first byte.
pub long_line : (c : ℕ) (l : List ℕ) → 201 ≤ length l → line_of (c ∷ l) ≡ cond (eqb c 35) TypedLine.Passed TypedLine.Unread
unfolding line_of
long_line c [] h = absurd (omega arith)
long_line c (d ∷ l) h =
    ap (λ (b : Bool). cond (eqb c 35) TypedLine.Passed (cond b TypedLine.Unread (pair_in (c ∷ without_return (d ∷ l)))))
    (lt-ltb 200 (suc (length (without_return (d ∷ l)))) (omega (arith, without_return_length (d ∷ l))))

-- So of a line of 202 bytes or more all behind the first 202 may be left out, or be anything.
pub long_alike : (n : ℕ) (l s : List ℕ) → 202 ≤ n → 202 ≤ length l → line_of (take n l ++ s) ≡ line_of l
long_alike n [] s k h = absurd (omega arith)
long_alike zero (c ∷ l) s k h = absurd (omega arith)
long_alike (suc n) (c ∷ l) s k h =
    long_line c (take n l ++ s) (omega (arith, length-append (take n l) s, length-take n l)) ∙ sym (long_line c l (omega arith))
