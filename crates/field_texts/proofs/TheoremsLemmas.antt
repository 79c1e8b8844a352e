-- What the proofs of `Theorems` cite: the digits of bytes, a byte of a note by the test of it, and texts of printable ASCII joined.
-- Assumes nothing.
use Rattle.std.specs.Prelude.{◌≡◌, refl, Bool, true, false, not, cond, ◌&&◌, List, [], ◌∷◌, ◌++◌, ℕ, ◌+◌, ◌<◌, eqb, ltb, take, drop}
use Rattle.std.proofs.Common.{sym, ap, arith, ltb-true}
use Rattle.std.proofs.lemmas.Bool.{false≢true, not-true}
use Rattle.text.specs.Ascii.{ascii}
use Rattle.hex_texts.specs.HexTexts.{hex_byte}
use Rattle.hex_texts.specs.Reading.{hex_value}
use Rattle.hex_texts.specs.Every.{both}
use Rattle.hex_texts.proofs.Theorems.{hex_byte_read}
use Rattle.field_texts.specs.FieldTexts.{is_plain, note_byte}
use Rattle.field_texts.specs.Reading.{unescaped_from, unescaped, Printable}
use Rattle.field_texts.specs.TheoremsLemmas.{hex_byte_printable}

plain-parts : (b : ℕ) → is_plain b ≡ true → ((31 < b) × (b < 127)) × (eqb b 92 ≡ false)
plain-parts b e =
    let outer : (ltb 31 b && ltb b 127 ≡ true) × (not (eqb b 92) ≡ true) = both (ltb 31 b && ltb b 127) (not (eqb b 92)) e in
    let inner : (ltb 31 b ≡ true) × (ltb b 127 ≡ true) = both (ltb 31 b) (ltb b 127) outer.0 in
    ((ltb-true 31 b inner.0, ltb-true b 127 inner.1), not-true (eqb b 92) outer.1)

-- a byte that is shown is read, and then the rest
pub byte_read : (b : ℕ) → b < 256 → (t : List ℕ) → unescaped (note_byte b ++ t) ≡ b ∷ unescaped t
byte_read b h t = by (is_plain b) refl
  where
    itself : (q : Bool) → q ≡ false → cond q (hex_value (take 2 (drop 1 t)) ∷ unescaped_from 3 t) (b ∷ unescaped t) ≡ b ∷ unescaped t
    itself true e = absurd (false≢true (sym e))
    itself false e = refl

    by : (p : Bool) → is_plain b ≡ p → unescaped (cond p (b ∷ []) (ascii "\\x" ++ hex_byte b) ++ t) ≡ b ∷ unescaped t
    by true e = itself (eqb b 92) (plain-parts b e).1
    by false e = ap (λ (x : ℕ). x ∷ unescaped t) (hex_byte_read b h)

pub byte_printable : (b : ℕ) → Printable (note_byte b)
byte_printable b = by (is_plain b) refl
  where
    by : (p : Bool) → is_plain b ≡ p → Printable (cond p (b ∷ []) (ascii "\\x" ++ hex_byte b))
    by true e = let parts = plain-parts b e in ((omega (arith, parts.0.0), omega (arith, parts.0.1)), tt)
    by false e = ((omega arith, omega arith), ((omega arith, omega arith), hex_byte_printable b))
