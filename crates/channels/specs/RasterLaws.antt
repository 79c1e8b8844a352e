-- The tests are right, and what is known of the channels of ILS and VOR: forty and one hundred and sixty, none of both, all on the raster of 50 kHz.
-- Assumes nothing.
use Rattle.std.specs.Prelude.{◌≡◌, refl, ◌↔◌, Bool, true, false, not, ◌&&◌, ℕ, ◌+◌, ◌-◌, ◌*◌, ◌/◌, ◌%◌, ◌≤◌, ◌<◌, leb}
use Rattle.std.proofs.Common.{ap₂, sym, inl, inr, true≢false, arith, le-leb}
use Rattle.std.proofs.Math.Decide.{ℕ_discrete}
use Rattle.frequencies.specs.Frequencies.{expressible, vhf_range}
use Rattle.frequencies.specs.declared.Band.{Band}
use Rattle.channels.specs.Raster.{Printed, ZeroOrFive, IlsChannel, VorChannel}
use Rattle.channels.specs.Channels.{is_ils, is_vor, ends}

-- ---- the digits in print

abbrev pub printed : (f : ℕ) → Printed f
printed f = record { whole = f / 100; tenths = f / 10 % 10; hundredths = f % 10; digits = (omega arith, omega arith); value = omega arith }

zero-or_five : (n : ℕ) → n ≤ 9 → n % 5 ≡ 0 → ZeroOrFive n
zero-or_five n h e = by (ℕ_discrete n 0)
  where
    by : Dec (n ≡ 0) → ZeroOrFive n
    by (yes q) = inl q
    by (no q) = inr (omega arith)

pub fives : (f : ℕ) (p : Printed f) → ZeroOrFive p.hundredths → f % 5 ≡ 0
fives f p (inl e) = omega (arith, p.value)
fives f p (inr e) = omega (arith, p.value)

pub tenths_alike : (f : ℕ) (p : Printed f) → f / 10 % 2 ≡ p.tenths % 2
tenths_alike f p = omega (arith, p.value, p.digits.1)

-- ---- the tests are right

pub between : (l h f : ℕ) {b : Bool} → l ≤ f → f ≤ h → b ≡ true → (leb l f && (leb f h && b)) ≡ true
between l h f a c e = ap₂ ◌&&◌ (le-leb l f a) (ap₂ ◌&&◌ (le-leb f h c) e)

pub last-digit : (f : ℕ) → f % 5 ≡ 0 → ZeroOrFive (f % 10)
last-digit f e = zero-or_five (f % 10) (omega arith) (omega arith)

-- a test that fails, and what it is for
pub fails : (b : Bool) {P : Type 0} → (b ≡ true) ↔ P → (not b ≡ true) ↔ (P → ⊥)
fails true t = (λ e x. true≢false (sym e), λ n. absurd (n (t.0 refl)))
fails false t = (λ e x. true≢false (sym (t.1 x)), λ n. refl)

pub mls_place : (f : ℕ) → 503100 ≤ f → f ≤ 509070 → f % 30 ≡ 0 → ((f - 503100) / 30 ≤ 199) × (f ≡ 503100 + 30 * ((f - 503100) / 30))
mls_place f a b c = (omega arith, omega arith)

pub digits_test : (f : ℕ) → (expressible Band.Vor f ≡ true) ↔ ((10000 ≤ f) × (f ≤ 17999))
digits_test f = (vhf_range f, λ r. ap₂ ◌&&◌ (le-leb 10000 f r.0) (le-leb f 17999 r.1))

-- ---- what is known of the channels of ILS and VOR

pub ils_bound : (f : ℕ) → is_ils f ≡ true → (10800 ≤ f) × (f < 10800 + 1000)
ils_bound f e = let p = ends _ _ f _ e in (omega (arith, p.0), omega (arith, p.1))

pub vor_bound : (f : ℕ) → is_vor f ≡ true → (10800 ≤ f) × (f < 10800 + 1000)
vor_bound f e = let p = ends _ _ f _ e in (omega (arith, p.0), omega (arith, p.1))

pub never_both : (f : ℕ) → IlsChannel f → VorChannel f → ⊥
never_both f i v = v.4 i

-- each is on the raster of 50 kHz
pub ils_raster : (f : ℕ) → IlsChannel f → (k : ℕ) × (f ≡ 5 * k)
ils_raster f c = (f / 5, omega (arith, fives f c.0 c.4))

pub vor_raster : (f : ℕ) → VorChannel f → (k : ℕ) × (f ≡ 5 * k)
vor_raster f c = (f / 5, omega (arith, fives f c.0 c.3))
