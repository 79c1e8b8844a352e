-- How long the text is at most: a line has at most six bytes for each byte of the sheet that is its field's own.
-- Assumes nothing.
use Rattle.std.specs.Prelude.{◌≡◌, refl, Bool, true, false, cond, List, [], ◌∷◌, ◌++◌, ℕ, ◌*◌, ◌-◌, ◌^◌, ◌≤◌, ◌<◌, eqb, ltb, pos, negsuc, nat_abs, length, drop, get_or, Ok, Err}
use Rattle.std.proofs.Common.{zero-le, arith, eqb-true, ltb-true, ltb-false, length-append}
use Rattle.bits.specs.Complement.{signed}
use Rattle.refusals.specs.declared.Refusal.{Refusal}
use Rattle.fields.specs.declared.FieldKind.{FieldKind}
use Rattle.fields.specs.Run.{Field, Refused}
use Rattle.fields.specs.Limits.{Placed, Every, nothing, ◌also◌}
use Rattle.contents.specs.BigEndian.{value_of}
use Rattle.text.specs.Ascii.{ascii}
use Rattle.text.specs.Writing.{last}
use Rattle.numerals.specs.Digits.{octal3, signed_fixed}
use Rattle.numerals.specs.Theorems.{decimal-length, padded-length, signed-length}
use Rattle.listing.specs.Size.{own, owned}
use Rattle.hex_texts.specs.HexTexts.{hex_byte}
use Rattle.field_texts.specs.FieldTexts.{each, note_byte, is_plain, figure_words, figure_text, content_text}
use Rattle.field_lines.specs.FieldLines.{head_text, line_of, lines_of}

-- ---- contents

each_short : (f : ℕ → List ℕ) (m : ℕ) → ((b : ℕ) → length (f b) ≤ m) → (bs : List ℕ) → length (each f bs) ≤ m * length bs
each_short f m h [] = zero-le
each_short f m h (b ∷ bs) = omega (arith, length-append (f b) (each f bs), h b, each_short f m h bs)

note_byte_short : (b : ℕ) → length (note_byte b) ≤ 4
note_byte_short b = go (is_plain b)
  where
    go : (t : Bool) → length (cond t (b ∷ []) (ascii "\\x" ++ hex_byte b)) ≤ 4
    go true = omega arith
    go false = omega arith

signed_small : (d : ℕ) → nat_abs (signed 64 d) ≤ 2 ^ 63
signed_small d = go (ltb d (2 ^ 63)) refl
  where
    go : (b : Bool) → ltb d (2 ^ 63) ≡ b → nat_abs (cond b (pos d) (negsuc (2 ^ 64 - 1 - d))) ≤ 2 ^ 63
    go true e = let h : d < 2 ^ 63 = ltb-true d (2 ^ 63) e in omega arith
    go false e = let h : 2 ^ 63 ≤ d = ltb-false d (2 ^ 63) e in omega arith

figure_words_short : (label d : ℕ) → length (octal3 label ++ ascii " " ++ signed_fixed 6 (signed 64 d)) ≤ 25
figure_words_short label d =
    let size : nat_abs (signed 64 d) ≤ 2 ^ 63 = signed_small d in
    let number : length (signed_fixed 6 (signed 64 d)) ≤ 21 = signed-length 12 6 (signed 64 d) (omega arith) in
    omega (arith, length-append (octal3 label ++ ascii " ") (signed_fixed 6 (signed 64 d)), length-append (octal3 label) (ascii " "), padded-length 8 3 label)

figure_by : (c : List ℕ) (label d : ℕ) (b : Bool) → eqb (length c) 9 ≡ b
    → length (figure_words (cond b (Ok (label, signed 64 d)) (Err Refusal.Length))) ≤ 6 * length c
figure_by c label d true e = let nine : length c ≡ 9 = eqb-true (length c) 9 e in omega (arith, figure_words_short label d)
figure_by c label d false e = zero-le

figure_short : (c : List ℕ) → length (figure_text c) ≤ 6 * length c
figure_short c = figure_by c (get_or c 0 0) (value_of (drop 1 c)) (eqb (length c) 9) refl

-- ---- a line

head_short : (p d : ℕ) (k : FieldKind) (n : ℕ) → p < 10 ^ 5 → d < 10 → n < 10 ^ 5 → length (head_text p d k n) ≤ 16
head_short p d k n hp hd hn = simp length-append (omega (arith, decimal-length 4 p hp, decimal-length 0 d hd, decimal-length 4 n hn))

line_by : (k : FieldKind) (c head : List ℕ) → length head ≤ 16 → length (head ++ content_text k c ++ ascii "\n") ≤ 6 * own k c
line_by FieldKind.Word c head h = simp length-append (omega (arith, each_short hex_byte 2 (λ b. omega arith) c))
line_by FieldKind.Figure c head h = simp length-append (omega (arith, figure_short c))
line_by FieldKind.Note c head h = simp length-append (omega (arith, each_short note_byte 4 note_byte_short c))
line_by FieldKind.Group c head h = simp length-append (omega arith)

line_short : (n : ℕ) → n ≤ 32768 → (f : Field) → Placed 1 0 n f → length (line_of f) ≤ 6 * own f.kind f.content
line_short n few f h =
    line_by f.kind f.content (head_text f.place f.depth f.kind (length f.content))
    (head_short f.place f.depth f.kind (length f.content) (omega (arith, h.last)) (omega (arith, h.deep.1)) (omega (arith, h.last)))

pub lines_short : (n : ℕ) → n ≤ 32768 → (fs : List Field) → Every (Placed 1 0 n) fs → length (lines_of fs) ≤ 6 * owned fs
lines_short n few [] nothing = zero-le
lines_short n few (f ∷ fs) (h also hs) =
    omega (arith, length-append (line_of f) (lines_of fs), line_short n few f h, lines_short n few fs hs)

-- ---- the whole text

-- The text of every sheet has at most 196,608 bytes.
abbrev pub longest : ℕ
longest = 196608
