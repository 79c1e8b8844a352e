-- What is shown of a field can be read back: the hex digits of bytes mean their number, and a note's text is told by what is shown of it, in printable ASCII.
-- Assumes nothing.
use Rattle.std.specs.Prelude.{◌≡◌, refl, Bool, true, false, cond, List, ℕ, ◌+◌, ◌*◌, ◌^◌, eqb, length, drop, Ok, Err}
use Rattle.std.proofs.Common.{◌∙◌, arith, eqb-true}
use Rattle.fields.specs.declared.FieldKind.{FieldKind}
use Rattle.refusals.specs.declared.Refusal.{Refusal}
use Rattle.contents.specs.BigEndian.{value_of, Bytes}
use Rattle.contents.specs.Contents.{word_in}
use Rattle.hex_texts.specs.Reading.{hex_value}
use Rattle.field_texts.specs.FieldTexts.{hex_bytes, content_text}
use Rattle.field_texts.specs.TheoremsLemmas.{bytes_after, bytes_length}

-- ---- hex digits

-- The digits of bytes mean the number of the bytes, high byte first.
pub hex_bytes_read : (bs : List ℕ) → Bytes bs → hex_value (hex_bytes bs) ≡ value_of bs
hex_bytes_read bs h = bytes_after 0 bs h ∙ nothing_before (2 ^ (8 * length bs)) (value_of bs)
  where
    nothing_before : (p x : ℕ) → 0 * p + x ≡ x
    nothing_before p x = omega arith

-- Behind the blank, a word field shows eight digits, and they mean the word in it.
pub word-shown : (c : List ℕ) (w : ℕ) → Bytes c → word_in c ≡ Ok w
    → (length (drop 1 (content_text FieldKind.Word c)) ≡ 8) × (hex_value (drop 1 (content_text FieldKind.Word c)) ≡ w)
word-shown c w h = by (eqb (length c) 4) refl
  where
    by : (b : Bool) → eqb (length c) 4 ≡ b → cond b (Ok (value_of c)) (Err Refusal.Length) ≡ Ok w
        → (length (hex_bytes c) ≡ 8) × (hex_value (hex_bytes c) ≡ w)
    by false e r = let z : ◌≡◌ {A = ℕ} 0 1 = cc in absurd (omega arith)
    by true e r =
        let v : value_of c ≡ w = cc in
        let four : length c ≡ 4 = eqb-true (length c) 4 e in
        (omega (arith, bytes_length c), hex_bytes_read c h ∙ v)

-- ---- notes
