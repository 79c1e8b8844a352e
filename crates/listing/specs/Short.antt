-- No sheet's listing has more than 117,085 bytes: a word field has 7 and a line of 25 at most, and the totals have 56.
-- Assumes nothing.
use Rattle.std.specs.Prelude.{◌≡◌, refl, List, ◌++◌, ℕ, ◌+◌, ◌≤◌, length, None}
use Rattle.std.proofs.Common.{arith, length-append}
use Rattle.fields.specs.Run.{Field, Scan, Fields, Refused, sheet_of}
use Rattle.lines.specs.Lines.{total_line}
use Rattle.lines.specs.Lengths.{total_line_length, refusal_line_length}
use Rattle.totals.specs.Totals.{words_in, refused_few}
use Rattle.listing.specs.Listing.{lines_of, listing_of, text_of}
use Rattle.listing.specs.Size.{owned, fields_owned, refusal_short, lines_short, words_few, longest}

-- whatever number of refused words the totals tell
lines_and_total : (s : List ℕ) (fs : List Field) (refused : ℕ) → sheet_of s ≡ Fields fs → refused ≤ words_in fs → length (lines_of None fs ++ total_line (words_in fs) refused) ≤ longest
lines_and_total s fs refused e few =
    let mine : owned fs ≤ 32768 = fields_owned s fs e in
    let words : words_in fs ≤ owned fs = words_few fs in
    let last : length (total_line (words_in fs) refused) ≤ 56 = total_line_length (words_in fs) refused (omega arith) (omega arith) in
    let sum : length (lines_of None fs ++ total_line (words_in fs) refused) ≡ length (lines_of None fs) + length (total_line (words_in fs) refused) =
    length-append (lines_of None fs) (total_line (words_in fs) refused) in
    omega (arith, lines_short None fs)

pub text_short : (s : List ℕ) → length (text_of s) ≤ longest
text_short s = by (sheet_of s) refl
  where
    by : (r : Scan) → sheet_of s ≡ r → length (listing_of r) ≤ longest
    by (Refused f p) e = omega (arith, refusal_line_length f p (refusal_short s f p e))
    by (Fields fs) e = lines_and_total s fs _ e (omega (arith, refused_few fs))
