-- What each of the nine reasons says of a figure, and which of them is told. Over any test of which figures agree, as with a word.
-- Assumes nothing.
use Rattle.std.specs.Prelude.{◌≡◌, Bool, true, ◌⊎◌, ℕ, ◌<◌, ℤ, pos, neg_ℤ, ◌*ℤ◌}
use Rattle.signed_numbers.specs.Signed.{Fits}
use Rattle.reasons.specs.declared.Reason.{Reason}
use Rattle.reasons.specs.declared.Reason.TheVariants.{Agrees, Tenth, Hundredth, Thousandth, TenTimes, HundredTimes, ThousandTimes, OtherSign, NoneOfThese}

-- the number of a reason: its place in the order
abbrev pub number_of : Reason → ℕ
number_of Agrees = 1
number_of Tenth = 2
number_of Hundredth = 3
number_of Thousandth = 4
number_of TenTimes = 5
number_of HundredTimes = 6
number_of ThousandTimes = 7
number_of OtherSign = 8
number_of NoneOfThese = 9

-- m is what a reason puts in the place of the figure z
abbrev pub Replaces : Reason → ℤ → ℤ → Type 0
Replaces Agrees z m = m ≡ z
Replaces Tenth z m = m *ℤ pos 10 ≡ z
Replaces Hundredth z m = m *ℤ pos 100 ≡ z
Replaces Thousandth z m = m *ℤ pos 1000 ≡ z
Replaces TenTimes z m = m ≡ z *ℤ pos 10
Replaces HundredTimes z m = m ≡ z *ℤ pos 100
Replaces ThousandTimes z m = m ≡ z *ℤ pos 1000
Replaces OtherSign z m = m ≡ neg_ℤ z
Replaces NoneOfThese z m = ⊥

-- it is a figure of 64 bits, and agrees
abbrev pub Agreeing : (ℤ → Bool) → ℤ → Reason → Type 0
Agreeing agrees z r = (m : ℤ) × Replaces r z m × Fits m × (agrees m ≡ true)

-- A reason is true where its figure agrees, and the last one where no other's does.
abbrev pub Holds : (ℤ → Bool) → ℤ → Reason → Type 0
Holds agrees z r = Agreeing agrees z r ⊎ ((r ≡ NoneOfThese) × ((s : Reason) → Agreeing agrees z s → ⊥))

-- The reason that is told is true, and no earlier one is.
pub record Told (agrees : ℤ → Bool) (z : ℤ) (r : Reason) : Type 0 where
  pub holds : Holds agrees z r
  pub none_earlier : (s : Reason) → number_of s < number_of r → Holds agrees z s → ⊥
