-- Each of the 64 bits of a group is one bit of one part's content.
use Rattle.std.specs.Prelude.{ℕ, ◌+◌, ◌-◌, ◌^◌, ◌/◌, ◌%◌, ◌<◌, ◌≡◌, [], ◌∷◌, get_or}
use Rattle.std.proofs.Common.{ap, ◌∙◌, arith}
use Rattle.reassembly_parts.specs.Take.{bits_of}
use Rattle.reassembly_parts.specs.Bits.{joined-bit}

-- Bit i is bit i % 16 of the content of part i / 16 + 1. It is bit 13 + i of the received word.
pub group_bit : (a b c d : ℕ) → a < 2 ^ 16 → b < 2 ^ 16 → c < 2 ^ 16 → d < 2 ^ 16 → (i : ℕ)
    → bits_of a b c d / 2 ^ i % 2 ≡ get_or (a ∷ b ∷ c ∷ d ∷ []) (i / 16) 0 / 2 ^ (i % 16) % 2
group_bit a b c d ha hb hc hd i = ap (λ (n : ℕ). n / 2 ^ i % 2) (omega arith) ∙ joined-bit (a ∷ b ∷ c ∷ d ∷ []) (ha, (hb, (hc, (hd, tt)))) i
