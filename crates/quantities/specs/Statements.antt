-- What is asked of the count coded for a figure and of the millionths printed for a count. Every distance is exact: both sides are
-- multiplied by the step's denominator, so it is the size of a difference of whole numbers.
use Rattle.std.specs.Prelude.{◌≡◌, ◌≢◌, ◌⊎◌, Bool, true, false, ℕ, ◌*◌, ◌≤◌, ◌<◌, ℤ, pos, neg_ℤ, nat_abs, ◌+ℤ◌, ◌-ℤ◌, ◌*ℤ◌, ◌≤ℤ◌, ◌<ℤ◌}
use Rattle.rounding.specs.Rounding.{Even}
use Rattle.quantities.specs.declared.Quantity.{Quantity}
use Rattle.quantities.specs.declared.Scale.{Scale}
use Rattle.quantities.specs.Scale.{scale_of, on_circle}

-- a count that the quantity's bits hold
abbrev pub LegalCount : Scale → ℤ → Type 0
LegalCount s c = (neg_ℤ (pos s.below) ≤ℤ c) × (c ≤ℤ pos s.above)

-- the distance of a figure in millionths from the value of a count
abbrev pub gap : Scale → ℤ → ℤ → ℕ
gap s figure c = nat_abs (figure *ℤ pos s.denominator -ℤ c *ℤ pos s.numerator)

-- the same where the value is moved by whole turns of 360 degrees
abbrev pub gap_turned : Scale → ℤ → ℤ → ℤ → ℕ
gap_turned s figure c turns =
    nat_abs (figure *ℤ pos s.denominator -ℤ (c *ℤ pos s.numerator +ℤ turns *ℤ pos (360000000 * s.denominator)))

-- d is the least of these, over all whole turns
pub record Shortest (s : Scale) (figure c : ℤ) (d : ℕ) : Type 0 where
  pub turns : ℤ
  pub reached : d ≡ gap_turned s figure c turns
  pub least : (t : ℤ) → d ≤ gap_turned s figure c t

-- d is how far the value of a count lies from a figure: on a line, or the shorter way round the circle
abbrev pub AwayBy : Bool → Scale → ℤ → ℤ → ℕ → Type 0
AwayBy false s figure c d = d ≡ gap s figure c
AwayBy true s figure c d = Shortest s figure c d

-- the same for a quantity, on its line or round the circle
abbrev pub Away : Quantity → ℤ → ℤ → ℕ → Type 0
Away q = AwayBy (on_circle q) (scale_of q)

-- a figure out of reach: on a line no legal value lies within half a step of it, and an azimuth is below -180, or is 360 or more
abbrev pub BeyondBy : Bool → Scale → ℤ → Type 0
BeyondBy false s figure = (c : ℤ) → LegalCount s c → ¬ (2 * gap s figure c ≤ s.numerator)
BeyondBy true s figure = (figure <ℤ neg_ℤ (pos 180000000)) ⊎ (pos 360000000 ≤ℤ figure)

-- the same for a quantity
abbrev pub Beyond : Quantity → ℤ → Type 0
Beyond q = BeyondBy (on_circle q) (scale_of q)

-- c is the count that a figure is coded to: no legal count lies nearer, and where another lies equally near, c is the even one
pub record Closest (circle : Bool) (s : Scale) (figure c : ℤ) : Type 0 where
  pub legal : LegalCount s c
  pub nearest : (other : ℤ) → LegalCount s other → (d e : ℕ) → AwayBy circle s figure c d → AwayBy circle s figure other e → d ≤ e
  pub even : (other : ℤ) → LegalCount s other → other ≢ c → (d : ℕ) → AwayBy circle s figure c d → AwayBy circle s figure other d → Even c

-- the same for a quantity
abbrev pub Coded : Quantity → ℤ → ℤ → Type 0
Coded q = Closest (on_circle q) (scale_of q)

-- every legal count but c lies farther from the figure than c does: the figure is no tie
abbrev pub Farther : Bool → Scale → ℤ → ℤ → Type 0
Farther circle s figure c =
    (other : ℤ) → LegalCount s other → other ≢ c → (d e : ℕ) → AwayBy circle s figure c d → AwayBy circle s figure other e → d < e

-- the distance of a count's value from a whole number of millionths
abbrev pub print_gap : Scale → ℤ → ℤ → ℕ
print_gap s c m = nat_abs (c *ℤ pos s.numerator -ℤ m *ℤ pos s.denominator)

-- m is the nearest whole number of millionths to a count's value, a tie to the even one
pub record Printed (q : Quantity) (c m : ℤ) : Type 0 where
  pub nearest : (other : ℤ) → print_gap (scale_of q) c m ≤ print_gap (scale_of q) c other
  pub even : (other : ℤ) → other ≢ m → print_gap (scale_of q) c other ≡ print_gap (scale_of q) c m → Even m
