-- Each test that decoding makes says just what the layouts ask.
-- Assumes nothing.
use Rattle.std.specs.Prelude.{ℕ}
use Rattle.std.proofs.Common.{lt_of_lt_of_le, lit<, lit≤}
use Rattle.bits.specs.Fields.{bits}
use Rattle.channels.specs.Raster.{IlsChannel, VorChannel}
use Rattle.channels.proofs.RasterLaws.{vor_legal, ils_legal}
use Rattle.records.specs.declared.Kind.{Kind}
use Rattle.demands.specs.HoldsLemmas.{sum-digits, field_lt}
use Rattle.demands.specs.TestsLemmas.{always, odd_test, at-most_test, both_test, marker_test, digits_test, status_test, tens_test, vhf_codes, part_test, vhf-value, channel_test, Tested}

pub tested : (k : Kind) (w : ℕ) → Tested k w
tested Kind.VorAzimuth w = record { digits = always; codes = marker_test w; value = λ d c. always; angle = always }
tested Kind.VorFrequency w = record { digits = digits_test w; codes = vhf_codes w; value = λ d. vhf-value w d VorChannel _ (λ s. vor_legal s _); angle = always }
tested Kind.IlsCourse w = record { digits = always; codes = always; value = λ d c. always; angle = always }
tested Kind.IlsGlide w = record { digits = always; codes = always; value = λ d c. always; angle = always }
tested Kind.IlsFrequency w = record { digits = digits_test w; codes = vhf_codes w; value = λ d. vhf-value w d IlsChannel _ (λ s. ils_legal s _); angle = always }
tested Kind.MlsFrequency w = record { digits = digits_test w; codes = both_test (status_test w) (tens_test w); value = λ d c. channel_test w d; angle = always }
tested Kind.MlsAzimuthDeviation w = record { digits = always; codes = always; value = λ d c. always; angle = always }
tested Kind.MlsGlideDeviation w = record { digits = always; codes = always; value = λ d c. always; angle = always }
tested Kind.SelectedAzimuth w = record { digits = always; codes = always; value = λ d c. rw (sum-digits 19 9 w) (at-most_test (bits 20 28 w) 359); angle = always }
tested Kind.GreatestGlideAngle w = record {
  digits = always;
  codes = always;
  value = λ d c. always;
  angle = rw (sum-digits 19 9 w) (odd_test (bits 20 28 w) (lt_of_lt_of_le (field_lt 19 9 w) (lit≤ tt)));
}
tested Kind.SelectedGlideAngle w = record { digits = always; codes = always; value = λ d c. always; angle = always }
tested Kind.Part1 w = record { digits = always; codes = part_test 0 0 w (lit< tt) (lit< tt); value = λ d c. always; angle = always }
tested Kind.Part2 w = record { digits = always; codes = part_test 1 0 w (lit< tt) (lit< tt); value = λ d c. always; angle = always }
tested Kind.Part3 w = record { digits = always; codes = part_test 0 1 w (lit< tt) (lit< tt); value = λ d c. always; angle = always }
tested Kind.Part4 w = record { digits = always; codes = part_test 1 1 w (lit< tt) (lit< tt); value = λ d c. always; angle = always }
