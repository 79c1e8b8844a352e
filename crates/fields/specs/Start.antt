-- What stands at the start of a run of bytes: document 01's tags and lengths, and the refusals in its order, 9 (header cut), 10, 9 (content cut), 11, 12.
-- Assumes nothing.
use Rattle.std.specs.Prelude.{Bool, true, false, cond, ◌||◌, List, [], ◌∷◌, ℕ, ◌+◌, ◌*◌, ◌/◌, ◌%◌, eqb, ltb, length, Option, Some, None, Result, Ok, Err}
use Rattle.refusals.specs.declared.Refusal.{Refusal}
use Rattle.fields.specs.declared.FieldKind.{FieldKind}

-- the four tags
abbrev pub tag_of : FieldKind → ℕ
tag_of FieldKind.Word = 0x10
tag_of FieldKind.Figure = 0x11
tag_of FieldKind.Note = 0x12
tag_of FieldKind.Group = 0x20

-- whether a field of this kind is a leaf: all but a group, which holds fields
abbrev pub is_leaf : FieldKind → Bool
is_leaf FieldKind.Word = true
is_leaf FieldKind.Figure = true
is_leaf FieldKind.Note = true
is_leaf FieldKind.Group = false

-- a tag, the length of the content in two bytes, high first, and the content
abbrev pub tagged : ℕ → List ℕ → List ℕ
tagged t c = t ∷ length c / 256 ∷ length c % 256 ∷ c

-- the bytes of a field
abbrev pub field_bytes : FieldKind → List ℕ → List ℕ
field_bytes k c = tagged (tag_of k) c

-- the field that a tag stands for
abbrev pub kind_of_tag : ℕ → Option FieldKind
kind_of_tag t =
    cond (eqb t 0x10) (Some FieldKind.Word)
    (cond (eqb t 0x11) (Some FieldKind.Figure)
    (cond (eqb t 0x12) (Some FieldKind.Note) (cond (eqb t 0x20) (Some FieldKind.Group) None)))

-- a word has 4 bytes, a figure 9; a note and a group any number
abbrev pub length_allowed : FieldKind → ℕ → Bool
length_allowed FieldKind.Word n = eqb n 4
length_allowed FieldKind.Figure n = eqb n 9
length_allowed FieldKind.Note n = true
length_allowed FieldKind.Group n = true

-- a group may not stand at depth 4
abbrev pub depth_allowed : FieldKind → ℕ → Bool
depth_allowed k d = is_leaf k || ltb d 4

-- a whole header, with the number of bytes left after it: 10, then 9, 11, 12, else a field
abbrev pub judged : Option FieldKind → (len left depth : ℕ) → Result (Option (FieldKind × ℕ)) Refusal
judged None len left depth = Err Refusal.Tag
judged (Some k) len left depth =
    cond (ltb left len) (Err Refusal.Truncated)
    (cond (length_allowed k len) (cond (depth_allowed k depth) (Ok (Some (k, len))) (Err Refusal.Depth)) (Err Refusal.Length))

-- the start of a run at a depth; a header of one or two bytes is cut
abbrev pub start_of : (depth : ℕ) → List ℕ → Result (Option (FieldKind × ℕ)) Refusal
start_of d [] = Ok None
start_of d (tag ∷ []) = Err Refusal.Truncated
start_of d (tag ∷ high ∷ []) = Err Refusal.Truncated
start_of d (tag ∷ high ∷ low ∷ rest) = judged (kind_of_tag tag) (high * 256 + low) (length rest) d
