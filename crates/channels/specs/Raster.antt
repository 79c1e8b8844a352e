-- The channels of ILS and of VOR, by the digits in which they are printed, and of MLS; and under which status a frequency must be one of them.
-- Frequencies are in tens of kHz: 113.20 MHz is 11320.
-- Assumes nothing.
use Rattle.std.specs.Prelude.{◌≡◌, ◌⊎◌, ℕ, ◌+◌, ◌*◌, ◌%◌, ◌≤◌}
use Rattle.statuses.specs.declared.Status.{Status}

-- "m.th MHz": whole MHz, tenths and hundredths
abbrev pub mhz : ℕ → ℕ → ℕ → ℕ
mhz m t h = 100 * m + 10 * t + h

-- the digits of a frequency in print
pub record Printed (f : ℕ) : Type 0 where
  pub whole : ℕ
  pub tenths : ℕ
  pub hundredths : ℕ
  pub digits : (tenths ≤ 9) × (hundredths ≤ 9)
  pub value : f ≡ mhz whole tenths hundredths

abbrev pub Odd : ℕ → Type 0
Odd n = n % 2 ≡ 1

abbrev pub ZeroOrFive : ℕ → Type 0
ZeroOrFive n = (n ≡ 0) ⊎ (n ≡ 5)

-- "one of the forty from 108.10 to 111.95 with odd tenths and hundredths 0 or 5"
abbrev pub IlsChannel : ℕ → Type 0
IlsChannel f = (p : Printed f) × (mhz 108 1 0 ≤ f) × (f ≤ mhz 111 9 5) × Odd p.tenths × ZeroOrFive p.hundredths

-- "from 108.00 to 117.95 with hundredths 0 or 5 and not one of those forty"
abbrev pub VorChannel : ℕ → Type 0
VorChannel f = (p : Printed f) × (mhz 108 0 0 ≤ f) × (f ≤ mhz 117 9 5) × ZeroOrFive p.hundredths × (IlsChannel f → ⊥)

-- "5031.0 + 0.3 k MHz, k from 0 to 199"
abbrev pub MlsChannel : ℕ → Type 0
MlsChannel f = (k : ℕ) × (k ≤ 199) × (f ≡ mhz 5031 0 0 + mhz 0 3 0 * k)

-- VOR and ILS: "Under ready or test .. must be", "Under nodata any decimal digits stay legal": which of the two is asked. Failure has no code in a
-- frequency word, and a record with it is refused with 4 before.
abbrev pub Under : Status → Type 0 → Type 0 → Type 0
Under Status.Ready channel digits = channel
Under Status.Test channel digits = channel
Under Status.NoData channel digits = digits
Under Status.Failure channel digits = digits
