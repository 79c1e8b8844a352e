-- Document 01's sentences on the sheet, each beside what states it.
-- Assumes nothing.
use Rattle.std.specs.Prelude.{◌≡◌, true, List, [], ◌∷◌, ◌↔◌, ℕ, ◌^◌, ◌≤◌, ◌<◌, ℤ, length, Ok}
use Rattle.bits.specs.Complement.{Holds}
use Rattle.refusals.specs.Order.{Follows}
use Rattle.refusals.specs.declared.Refusal.{Refusal}
use Rattle.contents.specs.BigEndian as contents
use Rattle.contents.specs.Contents.{word_bytes, figure_bytes, word_in, figure_in}
use Rattle.fields.specs.declared.FieldKind.{FieldKind}
use Rattle.fields.specs.Grammar.{Trees, bytes_of, fields_of, Bytes, Allowed, WrittenBy}
use Rattle.fields.specs.Answers.{scanned}
use Rattle.fields.specs.Rules.{RefusedAt, sheet_rules}
use Rattle.fields.specs.Run.{Field, Scan, Fields, Refused}
use Rattle.fields.specs.Start.{tag_of, length_allowed}

-- `sheet` gives the fields of a sheet, or its refusal with an offset.
pub record Sheet (sheet : List ℕ → Scan) : Type 0 where
  -- "Tagged fields: a one-byte tag, a two-byte length (high byte first), content. .. 20: group; a group holds fields and a field may be a group. Top fields are at depth 1."
  -- What a list of fields writes so (`bytes_of`), with lengths and depths as allowed, is a legal sheet with those fields;
  pub written : (ts : Trees) → Allowed 1 ts → length (bytes_of ts) ≤ 32768 → sheet (bytes_of ts) ≡ Fields (fields_of 1 0 ts)
  -- and each legal sheet was written so.
  pub legal : (s : List ℕ) → Bytes s → (fs : List Field) → sheet s ≡ Fields fs → (length s ≤ 32768) × WrittenBy 1 0 s fs
  -- "Tag 10 hex: word, 4 bytes, high first. 11: figure, 9 bytes: label as a number, then the millionths in two's complement. 12: note of any length. 20: group"
  pub tags : (tag_of FieldKind.Word ≡ 0x10) × (tag_of FieldKind.Figure ≡ 0x11) × (tag_of FieldKind.Note ≡ 0x12) × (tag_of FieldKind.Group ≡ 0x20)
  pub lengths : (n : ℕ) → ((length_allowed FieldKind.Word n ≡ true) ↔ (n ≡ 4)) × ((length_allowed FieldKind.Figure n ≡ true) ↔ (n ≡ 9)) × (length_allowed FieldKind.Note n ≡ true)
  pub word_in_lem : (w : ℕ) → w < 2 ^ 32 → word_in (word_bytes w) ≡ Ok w
  pub word_bytes_lem : (bs : List ℕ) (w : ℕ) → contents.Bytes bs → word_in bs ≡ Ok w → bs ≡ word_bytes w
  pub figure_in_lem : (label : ℕ) (m : ℤ) → Holds 64 m → figure_in (figure_bytes label m) ≡ Ok (label, m)
  pub figure_bytes_lem : (bs : List ℕ) (label : ℕ) (m : ℤ) → contents.Bytes bs → figure_in bs ≡ Ok (label, m) → bs ≡ figure_bytes label m
  -- "Empty sheet, empty group and empty note are legal."
  pub empty_sheet : sheet [] ≡ Fields []
  pub empty_group : sheet (0x20 ∷ 0 ∷ 0 ∷ []) ≡ Fields (record { place = 0; depth = 1; kind = FieldKind.Group; content = [] } ∷ [])
  pub empty_note : sheet (0x12 ∷ 0 ∷ 0 ∷ []) ≡ Fields (record { place = 0; depth = 1; kind = FieldKind.Note; content = [] } ∷ [])
  -- "Order: 15 first; then from the left, at each field 9 (header cut), 10, 9 (content runs past the enclosing end), 11, 12, then the group's inside."
  pub order : (s : List ℕ) → Bytes s → Follows scanned (sheet_rules s) (sheet s)
  pub one_refusal : (s : List ℕ) (f g : Refusal) (q r : ℕ) → RefusedAt 1 0 s f q → RefusedAt 1 0 s g r → (f ≡ g) × (q ≡ r)
  -- "A refusal carries its number (on reading a sheet also the offset of the field's tag, 0 for number 15)": the offset is that of a byte of the sheet.
  pub offset : (s : List ℕ) (f : Refusal) (p : ℕ) → sheet s ≡ Refused f p → p < length s
