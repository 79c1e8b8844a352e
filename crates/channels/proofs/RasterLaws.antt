-- The tests are right, and what is known of the channels of ILS and VOR: forty and one hundred and sixty, none of both, all on the raster of 50 kHz.
-- Assumes nothing.
use Rattle.std.specs.Prelude.{◌≡◌, refl, ◌⊎◌, ◌↔◌, Bool, true, false, not, ◌&&◌, ℕ, ◌+◌, ◌-◌, ◌*◌, ◌/◌, ◌%◌, ◌≤◌}
use Rattle.std.proofs.Common.{ap, ap₂, sym, ◌∙◌, inl, inr, arith, eq-eqb, eqb-true}
use Rattle.bits.specs.Laws.{both_true}
use Rattle.statuses.specs.declared.Status.{Status}
use Rattle.frequencies.specs.declared.Band.{Band}
use Rattle.channels.specs.Raster.{mhz, IlsChannel, VorChannel, MlsChannel, Under}
use Rattle.channels.specs.Counted.{Counted, counted}
use Rattle.channels.specs.Channels.{is_ils, is_vor, is_mls, legal_frequency, ends}
use Rattle.channels.specs.RasterLaws.{printed, fives, tenths_alike, between, last-digit, fails, mls_place, digits_test, ils_bound, vor_bound}

pub ils_test : (f : ℕ) → (is_ils f ≡ true) ↔ IlsChannel f
ils_test f = (
  λ e.
      let p = ends _ _ f _ e in
      let q = both_true _ _ p.2 in
      (printed f, p.0, p.1, sym (tenths_alike f (printed f)) ∙ eqb-true _ _ q.1, last-digit f (eqb-true _ _ q.0)),
  λ c. between _ _ f c.1 c.2 (ap₂ ◌&&◌ (eq-eqb _ _ (fives f c.0 c.4)) (eq-eqb _ _ (tenths_alike f c.0 ∙ c.3))),
)

pub vor_test : (f : ℕ) → (is_vor f ≡ true) ↔ VorChannel f
vor_test f =
    let other = fails (is_ils f) (ils_test f) in (
      λ e.
          let p = ends _ _ f _ e in
          let q = both_true _ _ p.2 in
          (printed f, p.0, p.1, last-digit f (eqb-true _ _ q.0), other.0 q.1),
      λ c. between _ _ f c.1 c.2 (ap₂ ◌&&◌ (eq-eqb _ _ (fives f c.0 c.3)) (other.1 c.4)),
    )

pub mls_test : (f : ℕ) → (is_mls f ≡ true) ↔ MlsChannel f
mls_test f = (
  λ e. let p = ends _ _ f _ e in let q = mls_place f p.0 p.1 (eqb-true _ _ p.2) in ((f - 503100) / 30, q.0, q.1),
  λ c.
      let k = c.0 in
      let l : k ≤ 199 = c.1 in
      let q : f ≡ 503100 + 30 * k = c.2 in
      between 503100 509070 f (omega arith) (omega arith) (eq-eqb (f % 30) 0 (omega arith)),
)

-- A VOR or ILS frequency is legal under ready and test when it is a channel, and under nodata from 100.00 to 179.99 MHz.
pub vor_legal : (s : Status) (f : ℕ) → (legal_frequency Band.Vor s f ≡ true) ↔ Under s (VorChannel f) ((10000 ≤ f) × (f ≤ 17999))
vor_legal Status.Failure f = digits_test f
vor_legal Status.NoData f = digits_test f
vor_legal Status.Test f = vor_test f
vor_legal Status.Ready f = vor_test f

pub ils_legal : (s : Status) (f : ℕ) → (legal_frequency Band.Ils s f ≡ true) ↔ Under s (IlsChannel f) ((10000 ≤ f) × (f ≤ 17999))
ils_legal Status.Failure f = digits_test f
ils_legal Status.NoData f = digits_test f
ils_legal Status.Test f = ils_test f
ils_legal Status.Ready f = ils_test f

-- An MLS frequency is legal under every status when it is a channel.
pub mls_legal : (s : Status) (f : ℕ) → (legal_frequency Band.Mls s f ≡ true) ↔ MlsChannel f
mls_legal s f = mls_test f

pub forty : Counted IlsChannel 40
forty = counted is_ils IlsChannel 10800 1000 ils_test ils_bound

pub one_hundred_and_sixty : Counted VorChannel 160
one_hundred_and_sixty = counted is_vor VorChannel 10800 1000 vor_test vor_bound

-- and on the raster from 108.00 to 117.95 MHz each frequency is of the one or of the other
pub one-or_other : (k : ℕ) → mhz 108 0 0 ≤ 5 * k → 5 * k ≤ mhz 117 9 5 → IlsChannel (5 * k) ⊎ VorChannel (5 * k)
one-or_other k l h = by (is_ils (5 * k)) refl
  where
    by : (b : Bool) → is_ils (5 * k) ≡ b → IlsChannel (5 * k) ⊎ VorChannel (5 * k)
    by true e = inl ((ils_test (5 * k)).0 e)
    by false e = inr ((vor_test (5 * k)).0 (between _ _ (5 * k) l h (ap₂ ◌&&◌ (eq-eqb (5 * k % 5) 0 (omega arith)) (ap not e))))
