-- Lines written out: what the definitions compute to.
-- Assumes nothing.
use Rattle.std.specs.Prelude.{◌≡◌, refl, [], ◌∷◌}
use Rattle.fields.specs.declared.FieldKind.{FieldKind}
use Rattle.text.specs.Ascii.{ascii}
use Rattle.numerals.specs.Digits.{decimal}
use Rattle.field_lines.specs.FieldLines.{line_of}

word : line_of (record { place = 0; depth = 1; kind = FieldKind.Word; content = 0xE8 ∷ 0 ∷ 0 ∷ 0x49 ∷ [] }) ≡ ascii "0 1 10 4 E8000049\n"
unfolding decimal
word = refl

figure : line_of (record { place = 7; depth = 1; kind = FieldKind.Figure; content = 0x7B ∷ 0 ∷ 0 ∷ 0 ∷ 0 ∷ 0 ∷ 0x0F ∷ 0x42 ∷ 0x40 ∷ [] }) ≡ ascii "7 1 11 9 173 1.000000\n"
unfolding decimal
figure = refl

-- the backslash is escaped, and so is every byte that is not printable
note : line_of (record { place = 19; depth = 2; kind = FieldKind.Note; content = 0x61 ∷ 0x20 ∷ 0x5C ∷ 0x0A ∷ 0xFF ∷ [] }) ≡ ascii "19 2 12 5 a \\x5C\\x0A\\xFF\n"
unfolding decimal
note = refl

group : line_of (record { place = 27; depth = 1; kind = FieldKind.Group; content = 0x12 ∷ 0 ∷ 0 ∷ [] }) ≡ ascii "27 1 20 3\n"
unfolding decimal
group = refl
