-- A text is a word exactly where it is eight hex digits; a word that is written is read back, and one that is read is written with the same digits, in capitals.
-- Assumes nothing.
use Rattle.std.specs.Prelude.{◌≡◌, refl, Bool, true, false, cond, ◌&&◌, ◌↔◌, List, [], ◌∷◌, ℕ, ◌^◌, ◌<◌, eqb, leb, length, Some, None}
use Rattle.std.proofs.Common.{sym, ap, ap₂, subst, ◌∙◌, arith, eqb-true, eq-eqb, le-leb}
use Rattle.hex_texts.specs.HexTexts.{word_text}
use Rattle.hex_texts.specs.Theorems.{word_by_digits}
use Rattle.typed_texts.specs.Numbers.{digit_of, value_of, are_digits, numeral, numeral_of}
use Rattle.typed_words.specs.Words.{word_of}
use Rattle.typed_words.specs.Eight.{Eight, weighed, capitals, InCapitals}
use Rattle.typed_words.specs.Lemmas.{digit-written, digits_of, digits-below, Small, all_small, capitals-left, word_passes, eight_written}
use Rattle.typed_words.proofs.Lemmas.{digits_weigh, digits_there, are_digits_lem, all-capitals}
use Rattle.typed_words.specs.Theorems.{Typed}

typed : (t : List ℕ) (w : ℕ) → word_of t ≡ Some w → Typed t w
typed t w = by (eqb (length t) 8) refl
  where
    inner : (u : List ℕ) → length u ≡ 8 → numeral_of 16 0xFFFFFFFF u ≡ Some w → Typed u w
    inner [] n e = absurd (omega arith)
    inner (c ∷ u) n e = go (are_digits 16 (c ∷ u)) refl (leb (value_of 16 (c ∷ u)) 0xFFFFFFFF) e
      where
        go : (a : Bool) → are_digits 16 (c ∷ u) ≡ a → (b : Bool) → numeral (a && b) (value_of 16 (c ∷ u)) ≡ Some w → Typed (c ∷ u) w
        go true d true e = record { eight = n; digits = d; value = cc }
        go true d false e = let z : ◌≡◌ {A = ℕ} 0 1 = cc in absurd (omega arith)
        go false d b e = let z : ◌≡◌ {A = ℕ} 0 1 = cc in absurd (omega arith)

    by : (b : Bool) → eqb (length t) 8 ≡ b → cond b (numeral_of 16 0xFFFFFFFF t) None ≡ Some w → Typed t w
    by true n e = inner t (eqb-true (length t) 8 n) e
    by false n e = let z : ◌≡◌ {A = ℕ} 0 1 = cc in absurd (omega arith)

typed_is : (t : List ℕ) (w : ℕ) → length t ≡ 8 → are_digits 16 t ≡ true → value_of 16 t ≡ w → word_of t ≡ Some w
typed_is [] w n d v = absurd (omega arith)
typed_is (c ∷ t) w n d v =
    let small : value_of 16 (c ∷ t) < 16 ^ 8 = subst (λ (k : ℕ). value_of 16 (c ∷ t) < 16 ^ k) n (digits-below (c ∷ t) d) in
    ap₂ (λ (x y : Bool). cond x (numeral y (value_of 16 (c ∷ t))) None)
    (eq-eqb (length (c ∷ t)) 8 n)
    (ap₂ ◌&&◌ d (le-leb (value_of 16 (c ∷ t)) 0xFFFFFFFF (omega arith)))
    ∙ ap Some v

-- A text is read as a word exactly where it is the eight digits of it.
pub word_exactly : (t : List ℕ) (w : ℕ) → (word_of t ≡ Some w) ↔ Eight t w
word_exactly t w = (there, back)
  where
    there : word_of t ≡ Some w → Eight t w
    there e =
        let h = typed t w e in
        (h.eight, (digits_of t, digits_there t h.digits, sym h.value ∙ digits_weigh t))

    back : Eight t w → word_of t ≡ Some w
    back (n, (ds, are, v)) =
        let h = are_digits_lem t ds are in
        typed_is t w n h.0 (digits_weigh t ∙ ap weighed (sym h.1) ∙ sym v)

-- A word that is written is read back.
pub written_read : (w : ℕ) → w < 2 ^ 32 → word_of (word_text w) ≡ Some w
written_read w h = typed_is (word_text w) w refl (word_passes w) (word_by_digits digit_of digit-written w h)

-- A word that is read is written as it was typed, with capitals.
pub read_written : (t : List ℕ) (w : ℕ) → word_of t ≡ Some w → word_text w ≡ capitals t
read_written t w e = let h = typed t w e in go t h.eight (all_small t h.digits) (sym h.value)
  where
    go : (u : List ℕ) → length u ≡ 8 → Small u → w ≡ value_of 16 u → word_text w ≡ capitals u
    go (a ∷ b ∷ c ∷ d ∷ e ∷ f ∷ g ∷ h ∷ []) n s v =
        eight_written w (digit_of a) (digit_of b) (digit_of c) (digit_of d) (digit_of e) (digit_of f) (digit_of g) (digit_of h) s.0 s.1.0 s.1.1.0 s.1.1.1.0 s.1.1.1.1.0 s.1.1.1.1.1.0 s.1.1.1.1.1.1.0 s.1.1.1.1.1.1.1.0 v
        ∙ all-capitals (a ∷ b ∷ c ∷ d ∷ e ∷ f ∷ g ∷ h ∷ []) s
    go [] n s v = absurd (omega arith)
    go (a ∷ []) n s v = absurd (omega arith)
    go (a ∷ b ∷ []) n s v = absurd (omega arith)
    go (a ∷ b ∷ c ∷ []) n s v = absurd (omega arith)
    go (a ∷ b ∷ c ∷ d ∷ []) n s v = absurd (omega arith)
    go (a ∷ b ∷ c ∷ d ∷ e ∷ []) n s v = absurd (omega arith)
    go (a ∷ b ∷ c ∷ d ∷ e ∷ f ∷ []) n s v = absurd (omega arith)
    go (a ∷ b ∷ c ∷ d ∷ e ∷ f ∷ g ∷ []) n s v = absurd (omega arith)
    go (a ∷ b ∷ c ∷ d ∷ e ∷ f ∷ g ∷ h ∷ i ∷ r) n s v = absurd (omega arith)

-- So one that is typed in capitals is written as it was typed.
pub capitals-written : (t : List ℕ) (w : ℕ) → InCapitals t → word_of t ≡ Some w → word_text w ≡ t
capitals-written t w h e = read_written t w e ∙ capitals-left t h

-- A word has 32 bits.
pub word_within : (t : List ℕ) (w : ℕ) → word_of t ≡ Some w → w < 2 ^ 32
word_within t w e =
    let h = typed t w e in
    subst (λ (n : ℕ). n < 2 ^ 32) h.value (subst (λ (k : ℕ). value_of 16 t < 16 ^ k) h.eight (digits-below t h.digits))
