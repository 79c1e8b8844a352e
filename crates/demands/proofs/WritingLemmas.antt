-- Each test that encoding makes says just what a legal record is.
-- Assumes nothing.
use Rattle.std.specs.Prelude.{◌≡◌, true, ◌↔◌}
use Rattle.channels.proofs.RasterLaws.{vor_legal, ils_legal, mls_legal}
use Rattle.records.specs.declared.Body.{Body}
use Rattle.encode.specs.Encode.{values_legal}
use Rattle.demands.specs.Legal.{ValuesOf}
use Rattle.demands.specs.TestsLemmas.{both_test, at-most_test}
use Rattle.demands.specs.WritingLemmas.{range_test}

pub values_test : (b : Body) → (values_legal b ≡ true) ↔ ValuesOf b
values_test (Body.VorAzimuth s m c) = range_test 4095 c.0
values_test (Body.VorFrequency s f) = vor_legal s f
values_test (Body.IlsCourse s i c) = range_test 4095 c.0
values_test (Body.IlsGlide s i c) = range_test 4095 c.0
values_test (Body.IlsFrequency s k f) = ils_legal s f
values_test (Body.MlsFrequency s f) = mls_legal s f
values_test (Body.MlsAzimuthDeviation s i l c) = range_test 32767 c.0
values_test (Body.MlsGlideDeviation s i l c) = range_test 32767 c.0
values_test (Body.SelectedAzimuth s m d) = at-most_test d 359
values_test (Body.GreatestGlideAngle s t) = at-most_test t 255
values_test (Body.SelectedGlideAngle s m t) = at-most_test t 511
values_test (Body.Part1 n c) = both_test (at-most_test n 255) (at-most_test c 255)
values_test (Body.Part2 c) = at-most_test c 65535
values_test (Body.Part3 c) = at-most_test c 65535
values_test (Body.Part4 g c) = at-most_test c 65535
