-- No sheet's text of fields has more than 196,608 bytes: a line has at most six for each byte of the sheet that is its field's own.
-- Assumes nothing.
use Rattle.std.specs.Prelude.{◌≡◌, refl, Bool, true, false, List, ℕ, ◌-◌, ◌≤◌, ltb, length}
use Rattle.std.proofs.Common.{sym, ◌∙◌, arith, ltb-true, ltb-false}
use Rattle.refusals.specs.declared.Refusal.{Refusal}
use Rattle.fields.specs.Run.{Field, Scan, Fields, Refused, sheet_of}
use Rattle.fields.proofs.Limits.{longer, sheet_fields}
use Rattle.lines.specs.Lengths.{refusal_line_length}
use Rattle.listing.specs.Size.{fields_owned, refusal_short}
use Rattle.field_lines.specs.FieldLines.{lines_of, fields_text, text_of}
use Rattle.field_lines.specs.Size.{lines_short, longest}

every_line : (s : List ℕ) (fs : List Field) → sheet_of s ≡ Fields fs → length (lines_of fs) ≤ longest
every_line s fs e = at (ltb 32768 (length s)) refl
  where
    at : (b : Bool) → ltb 32768 (length s) ≡ b → length (lines_of fs) ≤ longest
    at true l = let clash : Refused Refusal.Oversize 0 ≡ Fields fs = sym (longer s (ltb-true 32768 (length s) l)) ∙ e in let z : ◌≡◌ {A = ℕ} 0 1 = cc in absurd (omega arith)
    at false l = omega (arith, lines_short (length s) (ltb-false 32768 (length s) l) fs (sheet_fields s fs e), fields_owned s fs e)

pub text_short : (s : List ℕ) → length (text_of s) ≤ longest
text_short s = by (sheet_of s) refl
  where
    by : (r : Scan) → sheet_of s ≡ r → length (fields_text r) ≤ longest
    by (Refused f p) e = omega (arith, refusal_line_length f p (refusal_short s f p e))
    by (Fields fs) e = omega (arith, every_line s fs e)
