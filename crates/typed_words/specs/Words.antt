-- The word that a typed text is.
-- Assumes nothing.
use Rattle.std.specs.Prelude.{◌≡◌, Bool, cond, List, ℕ, eqb, length, Option, None}
use Rattle.std.proofs.Common.{sym, ap, ◌∙◌, eq-eqb, ne_eqb}
use Rattle.typed_texts.specs.Numbers.{numeral_of}

-- how many digits a word has
abbrev pub word_length : ℕ
word_length = 8

-- the number of its digits in base 16, where there are as many
abbrev pub word_of : List ℕ → Option ℕ
word_of t = cond (eqb (length t) word_length) (numeral_of 16 0xFFFFFFFF t) None

-- ---- what the proof of the reader cites

pub not_eight : (t : List ℕ) → (length t ≡ word_length → ⊥) → None ≡ word_of t
not_eight t h = ap (λ (b : Bool). cond b (numeral_of 16 0xFFFFFFFF t) None) (sym (ne_eqb (length t) word_length h))

pub of_eight : (t : List ℕ) (n : Option ℕ) → length t ≡ word_length → n ≡ numeral_of 16 0xFFFFFFFF t → n ≡ word_of t
of_eight t n h e = e ∙ ap (λ (b : Bool). cond b (numeral_of 16 0xFFFFFFFF t) None) (sym (eq-eqb (length t) word_length h))
