-- What the proofs of the writers cite: the byte at each place, and one line more.
-- Assumes nothing.
use Rattle.std.specs.Prelude.{◌≡◌, Bool, false, List, [], ◌∷◌, ◌++◌, ℕ, zero, suc, ◌+◌, ◌<◌, length, take, get_or}
use Rattle.std.proofs.Common.{sym, ap, ◌∙◌, append-nil, append_assoc, arith}
use Rattle.std.proofs.Math.ListN.{get_or-map}
use Rattle.records.specs.declared.Kind.TheVariants.{VorAzimuth}
use Rattle.records.specs.All.{kinds}
use Rattle.labels.specs.Table.{byte_of, kind_at}
use Rattle.label_texts.specs.LabelTexts.{label_line, label_lines, shown_bytes}

-- the byte at a place among those that are shown
abbrev pub shown_at : Bool → ℕ → ℕ
shown_at all i = get_or (shown_bytes all) i (byte_of VorAzimuth)

pub kind_byte : (i : ℕ) → shown_at false i ≡ byte_of (kind_at i)
unfolding shown_bytes
kind_byte i = get_or-map byte_of kinds i VorAzimuth

-- one line more
pub lines_more : (bs : List ℕ) (i d : ℕ) → i < length bs → label_lines (take i bs) ++ label_line (get_or bs i d) ≡ label_lines (take (i + 1) bs)
lines_more bs i d h = let e : suc i ≡ i + 1 = omega arith in go bs i h ∙ ap (λ (n : ℕ). label_lines (take n bs)) e
  where
    go : (l : List ℕ) (n : ℕ) → n < length l → label_lines (take n l) ++ label_line (get_or l n d) ≡ label_lines (take (suc n) l)
    go [] n k = absurd (omega arith)
    go (b ∷ l) zero k = sym (append-nil (label_line b))
    go (b ∷ l) (suc n) k = append_assoc (label_line b) (label_lines (take n l)) (label_line (get_or l n d)) ∙ ap (λ (t : List ℕ). label_line b ++ t) (go l n (omega arith))
