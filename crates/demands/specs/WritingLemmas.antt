-- Each test that encoding makes says just what a legal record is.
-- Assumes nothing.
use Rattle.std.specs.Prelude.{◌≡◌, refl, true, ◌&&◌, ◌↔◌, ◌≢◌, ℕ, suc, leb, ltb, ℤ, pos, negsuc, ◌≤ℤ◌}
use Rattle.std.proofs.Common.{sym, ap, ◌∙◌, true≢false, arith, lt-ltb, ltb-true, le→leb, leb→le}
use Rattle.std.specs.Int.Signed.{mag}
use Rattle.statuses.specs.Statuses.{decimal_code, decimal_listed}
use Rattle.records.specs.declared.Body.{Body}
use Rattle.records.specs.declared.Record.{Record}
use Rattle.statuses.specs.declared.Status.{Status}
use Rattle.statuses.specs.declared.Status.TheVariants.{Failure, NoData, Test, Ready}
use Rattle.encode.specs.Encode.{codes_listed}
use Rattle.demands.specs.Legal.{CodesOf, LegalCodes}
use Rattle.demands.specs.TestsLemmas.{always, both_test, at-most_test}

abbrev is_failure : Status → ℕ
is_failure Failure = 1
is_failure NoData = 0
is_failure Test = 0
is_failure Ready = 0

other : (s : Status) → is_failure s ≡ 0 → s ≢ Failure
other s z e = let q : ◌≡◌ {A = ℕ} 1 0 = sym (ap is_failure e) ∙ z in omega arith

status_listed_lem : (s : Status) → (decimal_listed (decimal_code s) ≡ true) ↔ (s ≢ Failure)
status_listed_lem Failure = (λ e. absurd (true≢false (sym e)), λ n. absurd (n refl))
status_listed_lem NoData = (λ e. other NoData refl, λ n. refl)
status_listed_lem Test = (λ e. other Test refl, λ n. refl)
status_listed_lem Ready = (λ e. other Ready refl, λ n. refl)

-- a signed number from -n-1 to n, by its `mag`
pub range_test : (n : ℕ) (z : ℤ) → (ltb (mag z) (suc n) ≡ true) ↔ ((negsuc n ≤ℤ z) × (z ≤ℤ pos n))
range_test n (pos k) = (
  λ e. (record { le = tt }, record { le = le→leb k n (omega (arith, ltb-true k (suc n) e)) }),
  λ h. lt-ltb k (suc n) (omega (arith, leb→le k n h.1.le)),
)
range_test n (negsuc k) = (
  λ e. (record { le = le→leb k n (omega (arith, ltb-true k (suc n) e)) }, record { le = tt }),
  λ h. lt-ltb k (suc n) (omega (arith, leb→le k n h.0.le)),
)

pub codes_test : (b : Body) → (codes_listed b ≡ true) ↔ CodesOf b
codes_test (Body.VorAzimuth s m c) = always
codes_test (Body.VorFrequency s f) = status_listed_lem s
codes_test (Body.IlsCourse s i c) = always
codes_test (Body.IlsGlide s i c) = always
codes_test (Body.IlsFrequency s k f) = status_listed_lem s
codes_test (Body.MlsFrequency s f) = status_listed_lem s
codes_test (Body.MlsAzimuthDeviation s i l c) = always
codes_test (Body.MlsGlideDeviation s i l c) = always
codes_test (Body.SelectedAzimuth s m d) = always
codes_test (Body.GreatestGlideAngle s t) = always
codes_test (Body.SelectedGlideAngle s m t) = always
codes_test (Body.Part1 n c) = always
codes_test (Body.Part2 c) = always
codes_test (Body.Part3 c) = always
codes_test (Body.Part4 g c) = always

-- the source and the codes together
pub legal_codes_test : (r : Record) → ((leb r.source 3 && codes_listed r.body) ≡ true) ↔ LegalCodes r
legal_codes_test r = both_test (at-most_test r.source 3) (codes_test r.body)
