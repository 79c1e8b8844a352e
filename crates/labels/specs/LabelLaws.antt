-- What shows that the label is right, computed over all 256 bytes: it is the label that it was before, its binary digits are bits 1 to 8 in their
-- order, bit 1 the highest, and turning a label so gives the byte back. Only the lowest byte of a word counts, so each holds of every word.
-- Assumes nothing.
use Rattle.std.specs.Prelude.{◌≡◌, ℕ, ◌+◌, ◌-◌, ◌*◌, ◌/◌, ◌%◌, ◌^◌, ◌≤◌}
use Rattle.std.proofs.Common.{ap, ◌∙◌, arith}
use Rattle.std.proofs.Math.Pow.{field, mod-mod-pow}
use Rattle.bits.specs.Fields.{bits}
use Rattle.labels.specs.Label.{bit}

-- ---- the label as before

-- The definition that stood before the bits were taken one by one, word for word but for its name.
-- bit k of the word, which weighs 2^(8-k) in the label
abbrev pub weighed : ℕ → ℕ → ℕ
weighed w k = bits k k w * 2 ^ (8 - k)

abbrev pub label_before : ℕ → ℕ
label_before w = weighed w 1 + weighed w 2 + weighed w 3 + weighed w 4 + weighed w 5 + weighed w 6 + weighed w 7 + weighed w 8

-- ---- bit 1 the highest digit

-- ---- the label turned

-- ---- of every word

-- a bit of the lowest byte is a bit of the word
pub low_bit : (w k : ℕ) → 1 ≤ k → k ≤ 8 → bit k (w % 256) ≡ bit k w
low_bit w k p q =
    let e : 8 ≡ 8 - k + 1 + (k - 1) = omega arith in
    ap (λ (n : ℕ). w % 2 ^ n / 2 ^ (k - 1) % 2) e ∙ ap (λ (x : ℕ). x % 2 ^ 1) (field w (8 - k + 1) (k - 1)) ∙ mod-mod-pow (w / 2 ^ (k - 1)) (8 - k) 1
