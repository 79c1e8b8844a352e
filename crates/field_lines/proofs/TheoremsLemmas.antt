-- What the proofs of `Theorems` cite: the parts of a line are printable ASCII, and no line end is.
-- Assumes nothing.
use Rattle.std.specs.Prelude.{◌≡◌, refl, List, [], ◌∷◌, ◌++◌, ℕ, length}
use Rattle.std.proofs.Common.{ap, ◌∙◌, append_assoc, arith}
use Rattle.fields.specs.declared.FieldKind.{FieldKind}
use Rattle.fields.specs.Start.{tag_of}
use Rattle.fields.specs.Run.{Field}
use Rattle.text.specs.Ascii.{ascii}
use Rattle.numerals.specs.Digits.{decimal}
use Rattle.hex_texts.specs.HexTexts.{hex_byte}
use Rattle.field_texts.specs.FieldTexts.{content_text}
use Rattle.field_texts.specs.Reading.{Printable}
use Rattle.field_texts.specs.TheoremsLemmas.{printable_both, blank_printable, decimal_printable, hex_byte_printable}
use Rattle.field_texts.proofs.Theorems.{content_printable}
use Rattle.listing_laws.specs.Count.{line_ends}
use Rattle.field_lines.specs.FieldLines.{place_text, head_text, lines_of}
use Rattle.field_lines.specs.TheoremsLemmas.{shown, ends_behind}

place_printable : (p d : ℕ) → Printable (place_text p d)
place_printable p d =
    printable_both (decimal p ++ (ascii " " ++ decimal d)) (ascii " ")
    (printable_both (decimal p) (ascii " " ++ decimal d) (decimal_printable p) (printable_both (ascii " ") (decimal d) blank_printable (decimal_printable d)))
    blank_printable

head_printable : (p d : ℕ) (k : FieldKind) (n : ℕ) → Printable (head_text p d k n)
head_printable p d k n =
    printable_both (place_text p d ++ hex_byte (tag_of k)) (ascii " " ++ decimal n)
    (printable_both (place_text p d) (hex_byte (tag_of k)) (place_printable p d) (hex_byte_printable (tag_of k)))
    (printable_both (ascii " ") (decimal n) blank_printable (decimal_printable n))

pub shown_printable : (f : Field) → Printable (shown f)
shown_printable f =
    printable_both (head_text f.place f.depth f.kind (length f.content)) (content_text f.kind f.content)
    (head_printable f.place f.depth f.kind (length f.content)) (content_printable f.kind f.content)

pub lines_ends : (fs : List Field) → line_ends (lines_of fs) ≡ length fs
lines_ends [] = refl
lines_ends (f ∷ fs) =
    let rest : line_ends (lines_of fs) ≡ length fs = lines_ends fs in
    ap line_ends (append_assoc (shown f) (ascii "\n") (lines_of fs))
    ∙ ends_behind (shown f) (ascii "\n" ++ lines_of fs) (shown_printable f)
    ∙ omega arith
