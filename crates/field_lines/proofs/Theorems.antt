-- The text of a sheet's fields is read by lines: each is printable ASCII with a line end behind it, and there is one for each field.
-- Assumes nothing.
use Rattle.std.specs.Prelude.{◌≡◌, refl, List, ◌++◌, ℕ, length}
use Rattle.std.proofs.Common.{ap, ◌∙◌}
use Rattle.fields.specs.Run.{Field, Fields, sheet_of}
use Rattle.text.specs.Ascii.{ascii}
use Rattle.field_texts.specs.Reading.{Printable}
use Rattle.listing_laws.specs.Count.{line_ends}
use Rattle.field_lines.specs.FieldLines.{line_of, fields_text, text_of}
use Rattle.field_lines.specs.TheoremsLemmas.{shown}
use Rattle.field_lines.proofs.TheoremsLemmas.{shown_printable, lines_ends}

-- The line of a field is printable ASCII and a line end.
pub line_printable : (f : Field) → (t : List ℕ) × Printable t × (line_of f ≡ t ++ ascii "\n")
line_printable f = (shown f, shown_printable f, refl)

-- The text of a legal sheet has a line end for each of its fields.
pub one_line_each : (s : List ℕ) (fs : List Field) → sheet_of s ≡ Fields fs → line_ends (text_of s) ≡ length fs
one_line_each s fs e = ap (λ r. line_ends (fields_text r)) e ∙ lines_ends fs
