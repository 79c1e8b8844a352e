-- What shows that the label is right, computed over all 256 bytes: it is the label that it was before, its binary digits are bits 1 to 8 in their
-- order, bit 1 the highest, and turning a label so gives the byte back. Only the lowest byte of a word counts, so each holds of every word.
-- Assumes nothing.
use Rattle.std.specs.Prelude.{◌≡◌, refl, ℕ, zero, suc, ◌+◌, ◌-◌, ◌*◌, ◌/◌, ◌%◌, ◌^◌, ◌≤◌, ◌<◌, eqb}
use Rattle.std.proofs.Common.{sym, ap, ap₂, ◌∙◌, zero-add, div-one, mod-lt, arith, lit<}
use Rattle.bits.specs.Fields.{bits}
use Rattle.labels.specs.Label.{bit, label_to, label_of}
use Rattle.labels.specs.BytesLemmas.{every, every-at, over_bytes}
use Rattle.labels.specs.LabelLaws.{weighed, label_before, low_bit}

-- Every byte has the label that it had before.
pub as_before : (b : ℕ) → b < 256 → label_of b ≡ label_before b
as_before = over_bytes label_of label_before tt

-- computed for j from 0 to 7 and each byte
digits-checked : (j b : ℕ) → j < 8 → b < 256 → bit (8 - j) (label_of b) ≡ bit (suc j) b
digits-checked j b h =
    over_bytes (λ (x : ℕ). bit (8 - j) (label_of x)) (λ (x : ℕ). bit (suc j) x)
    (every-at (λ (i : ℕ). every (λ (x : ℕ). eqb (bit (8 - i) (label_of x)) (bit (suc i) x)) 256) 8 tt j h) b

-- The binary digit of the label that weighs 2^(8-k) is bit k of the byte: its highest, which weighs 2^7, is bit 1.
pub label_digit : (k b : ℕ) → 1 ≤ k → k ≤ 8 → b < 256 → bit (9 - k) (label_of b) ≡ bit k b
label_digit zero b p q h = absurd (omega arith)
label_digit (suc j) b p q h = ap (λ (n : ℕ). bit n (label_of b)) (omega arith) ∙ digits-checked j b (omega arith) h

-- Turning the label of a byte in the same way gives the byte back.
pub label_twice : (b : ℕ) → b < 256 → label_of (label_of b) ≡ b
label_twice = over_bytes (λ (b : ℕ). label_of (label_of b)) (λ (b : ℕ). b) tt

pub label_lt : (w : ℕ) → label_of w < 256
label_lt w = omega arith

low_to : (w n : ℕ) → n ≤ 8 → label_to n (w % 256) ≡ label_to n w
low_to w zero h = refl
low_to w (suc n) h = ap₂ (λ (x y : ℕ). x + y * 2 ^ (8 - suc n)) (low_to w n (omega arith)) (low_bit w (suc n) (omega arith) h)

-- only the lowest byte of a word makes its label
pub label_low : (w : ℕ) → label_of (bits 1 8 w) ≡ label_of w
label_low w = ap (λ (x : ℕ). label_of (x % 256)) (div-one w) ∙ low_to w 8 (omega arith)

-- each digit of a word's label is one of its bits, bit 1 the highest
pub word-digit : (k w : ℕ) → 1 ≤ k → k ≤ 8 → bit (9 - k) (label_of w) ≡ bit k w
word-digit k w p q =
    ap (bit (9 - k)) (sym (low_to w 8 (omega arith))) ∙ label_digit k (w % 256) p q (mod-lt w (lit< tt)) ∙ low_bit w k p q

-- every word has the label that it had before
pub word_as_before : (w : ℕ) → label_of w ≡ label_before w
word_as_before w = ap (λ (x : ℕ). x + weighed w 2 + weighed w 3 + weighed w 4 + weighed w 5 + weighed w 6 + weighed w 7 + weighed w 8) (zero-add (weighed w 1))

-- turning the label of a word gives its lowest byte
pub label_byte : (w : ℕ) → label_of (label_of w) ≡ bits 1 8 w
label_byte w = ap label_of (sym (label_low w)) ∙ label_twice (bits 1 8 w) (mod-lt (w / 2 ^ 0) (lit< tt))
