-- Labels as text, for a reader who looks the rule over. A line for a byte, `222 10010010 49`, has the label in three octal digits, bits 1 to 8 of the word
-- in their order, and the byte in hex.
-- Assumes nothing.
use Rattle.std.specs.Prelude.{Bool, true, false, List, [], ◌∷◌, ◌++◌, map, ℕ, zero, suc, ◌+◌}
use Rattle.records.specs.All.{kinds}
use Rattle.labels.specs.Label.{bit, label_of}
use Rattle.labels.specs.Table.{byte_of}
use Rattle.text.specs.Ascii.{ascii}
use Rattle.hex_texts.specs.HexTexts.{hex_byte}
use Rattle.numerals.specs.Digits.{octal3}

-- bits 1 to n in their order, bit 1 first, each as a digit
abbrev pub bits_to : ℕ → ℕ → List ℕ
bits_to zero b = []
bits_to (suc n) b = bits_to n b ++ ((48 + bit (suc n) b) ∷ [])

-- bits 1 to 8
abbrev pub bits_text : ℕ → List ℕ
bits_text b = bits_to 8 b

-- the line of a byte
unfoldable pub label_line : ℕ → List ℕ
label_line b = octal3 (label_of b) ++ ascii " " ++ bits_text b ++ ascii " " ++ hex_byte b ++ ascii "\n"

-- a line for each byte
abbrev pub label_lines : List ℕ → List ℕ
label_lines [] = []
label_lines (b ∷ bs) = label_line b ++ label_lines bs

-- the bytes below n, from 00 on
abbrev pub bytes_below : ℕ → List ℕ
bytes_below zero = []
bytes_below (suc n) = bytes_below n ++ (n ∷ [])

-- the bytes that are shown: those of the fifteen labels, in the order of document 01's table, or all 256
unfoldable pub shown_bytes : Bool → List ℕ
shown_bytes false = map byte_of kinds
shown_bytes true = bytes_below 256

-- the lines of these bytes
abbrev pub labels_text : Bool → List ℕ
labels_text all = label_lines (shown_bytes all)
