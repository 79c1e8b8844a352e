-- What a line is, by its length, its first byte and its parts.
-- Assumes nothing.
use Rattle.std.specs.Prelude.{◌≡◌, refl, Bool, cond, List, [], ◌∷◌, ℕ, ◌≤◌, ◌<◌, ltb, ℤ, length, get_or, Option, Some}
use Rattle.std.proofs.Common.{ap, ap₂, arith, eq-eqb, ne_eqb, lt-ltb, le-ltb}
use Rattle.typed_pairs.specs.declared.TypedLine.{TypedLine}
use Rattle.typed_pairs.specs.Pairs.{pair_of, pair_in, comment_start, longest, content_of}

-- ---- the content, by its length and its first byte

pub empty_passed : (t : List ℕ) → length t ≡ 0 → content_of t ≡ TypedLine.Passed
empty_passed [] n = refl
empty_passed (c ∷ t) n = absurd (omega arith)

pub comment_passed : (t : List ℕ) → (length t ≡ 0 → ⊥) → get_or t 0 0 ≡ comment_start → content_of t ≡ TypedLine.Passed
comment_passed [] n e = absurd (n refl)
comment_passed (c ∷ t) n e =
    ap (λ (b : Bool). cond b TypedLine.Passed (cond (ltb longest (length (c ∷ t))) TypedLine.Unread (pair_in (c ∷ t)))) (eq-eqb c comment_start e)

pub long_unread : (t : List ℕ) → (get_or t 0 0 ≡ comment_start → ⊥) → longest < length t → content_of t ≡ TypedLine.Unread
long_unread [] e h = absurd (omega arith)
long_unread (c ∷ t) e h =
    ap₂ (λ (a b : Bool). cond a TypedLine.Passed (cond b TypedLine.Unread (pair_in (c ∷ t)))) (ne_eqb c comment_start e) (lt-ltb longest (length (c ∷ t)) h)

pub pair_content : (t : List ℕ) → (length t ≡ 0 → ⊥) → (get_or t 0 0 ≡ comment_start → ⊥) → length t ≤ longest → content_of t ≡ pair_in t
pair_content [] n e h = absurd (n refl)
pair_content (c ∷ t) n e h =
    ap₂ (λ (a b : Bool). cond a TypedLine.Passed (cond b TypedLine.Unread (pair_in (c ∷ t)))) (ne_eqb c comment_start e) (le-ltb longest (length (c ∷ t)) h)

-- ---- the pair, by what stands behind it

pub nothing_behind : (word : Option ℕ) (figure : Option ℤ) (rest : List ℕ) (w : ℕ) (z : ℤ) → word ≡ Some w → figure ≡ Some z → length rest ≡ 0
    → pair_of word figure rest ≡ TypedLine.Pair w z
nothing_behind word figure [] w z e f n = ap₂ (λ (x : Option ℕ) (y : Option ℤ). pair_of x y []) e f
nothing_behind word figure (c ∷ t) w z e f n = absurd (omega arith)
