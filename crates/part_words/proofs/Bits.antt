-- Each of the 64 bits of a group is one bit of one of its four words.
-- Assumes nothing.
use Rattle.std.specs.Prelude.{ℕ, ◌+◌, ◌-◌, ◌^◌, ◌/◌, ◌%◌, ◌<◌, ◌≡◌, [], ◌∷◌, get_or}
use Rattle.std.proofs.Common.{ap, ◌∙◌, mod-lt, lit<}
use Rattle.std.proofs.Math.ListN.{get_or-map}
use Rattle.bits.specs.Fields.{bits}
use Rattle.reassembly_parts.proofs.Bits.{group_bit}
use Rattle.part_words.specs.Bits.{group_from, content-bit, content-lt}

-- Bit i of the group, which is bit 13 + i of the received MLS word, is bit 14 + i % 16 of word i / 16 + 1 of the four.
pub word-bit : (w₁ w₂ w₃ w₄ i : ℕ)
    → (group_from w₁ w₂ w₃ w₄).bits / 2 ^ i % 2 ≡ bits (14 + i % 16) (14 + i % 16) (get_or (w₁ ∷ w₂ ∷ w₃ ∷ w₄ ∷ []) (i / 16) 0)
word-bit w₁ w₂ w₃ w₄ i =
    group_bit (bits 14 29 w₁) (bits 14 29 w₂) (bits 14 29 w₃) (bits 14 29 w₄) (content-lt w₁) (content-lt w₂) (content-lt w₃) (content-lt w₄) i
    ∙ ap (λ (n : ℕ). n / 2 ^ (i % 16) % 2) (get_or-map (bits 14 29) (w₁ ∷ w₂ ∷ w₃ ∷ w₄ ∷ []) (i / 16) 0)
    ∙ content-bit (get_or (w₁ ∷ w₂ ∷ w₃ ∷ w₄ ∷ []) (i / 16) 0) (i % 16) (mod-lt i (lit< tt))
