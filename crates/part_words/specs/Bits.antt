-- Each of the 64 bits of a group is one bit of one of its four words.
-- Assumes nothing.
use Rattle.std.specs.Prelude.{ℕ, ◌+◌, ◌*◌, ◌-◌, ◌^◌, ◌/◌, ◌%◌, ◌<◌, ◌≡◌, eqb}
use Rattle.std.proofs.Common.{ap, ap₂, ◌∙◌, mod-lt, arith, pow_pos, shr-shr}
use Rattle.std.proofs.Math.Pow.{field, mod-mod-pow}
use Rattle.std.proofs.lemmas.Nat.{mod-pow-add}
use Rattle.bits.specs.Fields.{bits}
use Rattle.reassembly_parts.specs.declared.Group.{Group}
use Rattle.reassembly_parts.specs.Run.{group_of}

-- the group that four words give: bits 14 to 29 of each, those of the first lowest, and whether the parity was good, bit 11 of the fourth
abbrev pub group_from : (w₁ w₂ w₃ w₄ : ℕ) → Group
group_from w₁ w₂ w₃ w₄ = group_of (bits 14 29 w₁) (bits 14 29 w₂) (bits 14 29 w₃) (bits 14 29 w₄) (eqb (bits 11 11 w₄) 1)

-- bit j of bits 14 to 29 is bit 14 + j of the word
pub content-bit : (w j : ℕ) → j < 16 → bits 14 29 w / 2 ^ j % 2 ≡ bits (14 + j) (14 + j) w
content-bit w j h =
    let width : 16 ≡ 15 - j + 1 + j = omega arith in
    let place : 13 + j ≡ 14 + j - 1 = omega arith in
    let one : 1 ≡ 14 + j + 1 - (14 + j) = omega arith in
    ap (λ (n : ℕ). w / 2 ^ 13 % 2 ^ n / 2 ^ j % 2) width
    ∙ ap (λ (n : ℕ). n % 2 ^ 1) (field (w / 2 ^ 13) (15 - j + 1) j)
    ∙ mod-mod-pow (w / 2 ^ 13 / 2 ^ j) (15 - j) 1
    ∙ ap (λ (n : ℕ). n % 2 ^ 1) (shr-shr w 13 j)
    ∙ ap₂ (λ (n m : ℕ). w / 2 ^ n % 2 ^ m) place one

pub content-lt : (w : ℕ) → bits 14 29 w < 2 ^ 16
content-lt w = mod-lt (w / 2 ^ 13) (pow_pos 16)

-- The content of part one is its word number (bits 14 to 21) and, above it, its record's content (bits 22 to 29).
pub first-content : (w : ℕ) → bits 14 29 w ≡ bits 22 29 w * 256 + bits 14 21 w
first-content w = mod-pow-add (w / 2 ^ 13) 8 8 ∙ ap (λ (n : ℕ). n % 2 ^ 8 * 2 ^ 8 + w / 2 ^ 13 % 2 ^ 8) (shr-shr w 13 8)
