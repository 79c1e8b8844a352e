-- The content of a field as text: a word in hex, a figure's label and number, a note's text.
-- Assumes nothing.
use Rattle.std.specs.Prelude.{◌≡◌, refl, Bool, true, false, not, cond, ◌&&◌, List, [], ◌∷◌, ◌++◌, ℕ, zero, suc, ◌+◌, ◌<◌, eqb, ltb, length, take, get_or, Result, Ok, Err, ℤ}
use Rattle.std.proofs.Common.{sym, ap, ◌∙◌, append-nil, append_assoc, arith}
use Rattle.fields.specs.declared.FieldKind.{FieldKind}
use Rattle.refusals.specs.declared.Refusal.{Refusal}
use Rattle.contents.specs.Contents.{figure_in}
use Rattle.text.specs.Ascii.{ascii}
use Rattle.hex_texts.specs.HexTexts.{hex_byte}
use Rattle.numerals.specs.Digits.{octal3, signed_fixed}

-- ---- bytes in hex

-- what each byte is written as, one behind the other
abbrev pub each : (ℕ → List ℕ) → List ℕ → List ℕ
each f [] = []
each f (b ∷ bs) = f b ++ each f bs

abbrev pub hex_bytes : List ℕ → List ℕ
hex_bytes bs = each hex_byte bs

-- ---- notes

-- printable ASCII, the blank among it, and no backslash
abbrev pub is_plain : ℕ → Bool
is_plain b = (ltb 31 b && ltb b 127) && not (eqb b 92)

-- such a byte stands for itself, any other as a backslash, an x and its two hex digits
abbrev pub note_byte : ℕ → List ℕ
note_byte b = cond (is_plain b) (b ∷ []) (ascii "\\x" ++ hex_byte b)

abbrev pub note_text : List ℕ → List ℕ
note_text bs = each note_byte bs

-- ---- figures

-- the label in three octal digits and the number with six decimals
abbrev pub figure_words : Result (ℕ × ℤ) Refusal → List ℕ
figure_words (Ok (label, millionths)) = octal3 label ++ ascii " " ++ signed_fixed 6 millionths
figure_words (Err f) = []

-- (a figure field of a sheet always has its nine bytes)
abbrev pub figure_text : List ℕ → List ℕ
figure_text c = figure_words (figure_in c)

-- ---- the content of a field, behind a blank; a group's are fields of their own

abbrev pub content_text : FieldKind → List ℕ → List ℕ
content_text FieldKind.Word c = ascii " " ++ hex_bytes c
content_text FieldKind.Figure c = ascii " " ++ figure_text c
content_text FieldKind.Note c = ascii " " ++ note_text c
content_text FieldKind.Group c = []

-- ---- what the proofs of the writers cite

-- one byte more
pub each-suc : (f : ℕ → List ℕ) (bs : List ℕ) (i : ℕ) → i < length bs → each f (take i bs) ++ f (get_or bs i 0) ≡ each f (take (i + 1) bs)
each-suc f bs i h = let e : suc i ≡ i + 1 = omega arith in go bs i h ∙ ap (λ (n : ℕ). each f (take n bs)) e
  where
    go : (l : List ℕ) (n : ℕ) → n < length l → each f (take n l) ++ f (get_or l n 0) ≡ each f (take (suc n) l)
    go [] n k = absurd (omega arith)
    go (b ∷ l) zero k = sym (append-nil (f b))
    go (b ∷ l) (suc n) k = append_assoc (f b) (each f (take n l)) (f (get_or l n 0)) ∙ ap (λ (t : List ℕ). f b ++ t) (go l n (omega arith))

-- a byte of a note by the test of it
pub plain_byte : (b : ℕ) → is_plain b ≡ true → b ∷ [] ≡ note_byte b
plain_byte b e = rw e refl

pub escaped_byte : (b : ℕ) → is_plain b ≡ false → ascii "\\x" ++ hex_byte b ≡ note_byte b
escaped_byte b e = rw e refl
