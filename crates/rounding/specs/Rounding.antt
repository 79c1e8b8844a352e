-- Rounding half to even: a whole number over a divisor, to the nearest whole number, a tie to the even one.
use Rattle.std.specs.Prelude.{◌≡◌, refl, cond, ℕ, ◌+◌, ◌-◌, ◌*◌, ◌/◌, ◌%◌, ◌≤◌, ◌<◌, ltb, eqb, ℤ, pos, nat_abs, ◌-ℤ◌, ◌*ℤ◌}
use Rattle.std.proofs.Common.{arith, ne_eqb}
use Rattle.rounding.specs.Parts.{is_negative, with_sign}

-- n over d, rounded: down where the remainder is less than what it lacks to d, up where it is more, and to the even one where they are equal
unfoldable pub round_even : ℕ → ℕ → ℕ
round_even n d =
    cond (ltb (n % d) (d - n % d)) (n / d)
    (cond (ltb (d - n % d) (n % d)) (n / d + 1)
    (n / d + n / d % 2))

-- n over any d: nothing is rounded over 0, and the answer there is 0
abbrev pub rounded_over : ℕ → ℕ → ℕ
rounded_over n d = cond (eqb d 0) 0 (round_even n d)

pub rounded-over : (n d : ℕ) → 0 < d → rounded_over n d ≡ round_even n d
rounded-over n d h = rw (ne_eqb d 0 (λ e. omega arith)) refl

-- a signed number over d: its size is rounded, and its sign kept
unfoldable pub round_even_ℤ : ℤ → ℕ → ℤ
round_even_ℤ z d = with_sign (is_negative z) (round_even (nat_abs z) d)

-- k is a multiple of 2
abbrev pub Even : ℤ → Type 0
Even k = nat_abs k % 2 ≡ 0

-- d times as far as k lies from z / d, a whole number
abbrev pub error : ℤ → ℕ → ℤ → ℕ
error z d k = nat_abs (z -ℤ k *ℤ pos d)

-- k is z over d rounded half to even: it lies at most one half off, and where that is one half, k is even
pub record Rounded (z : ℤ) (d : ℕ) (k : ℤ) : Type 0 where
  pub near : 2 * error z d k ≤ d
  pub even : 2 * error z d k ≡ d → Even k
