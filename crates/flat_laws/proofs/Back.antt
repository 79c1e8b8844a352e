-- A record's numbers stand for that record: nothing is lost.
-- Assumes nothing.
use Rattle.std.specs.Prelude.{◌≡◌, refl, ℕ, ◌≤◌, leb, Ok}
use Rattle.std.proofs.Common.{ap, ◌∙◌, mod-eq_of_lt, arith, le-leb}
use Rattle.codes.specs.Codes.{marker_of_lem, category_of_lem, flag-of}
use Rattle.records.specs.Kinds.{kind_of}
use Rattle.records.specs.declared.Body.{Body}
use Rattle.records.specs.declared.Kind.{Kind}
use Rattle.records.specs.declared.Record.{Record}
use Rattle.roundtrip.specs.Forth.{marker_listed_lem}
use Rattle.flat_records.specs.Numbers.{flat_body, flat_of}
use Rattle.flat_records.specs.declared.FlatRecord.{FlatRecord}
use Rattle.flat_fields.specs.Fields.{record_from, all-kept}
use Rattle.flat_laws.specs.Codes.{status_listed_lem, category_listed, flag-fits, status_of_lem}
use Rattle.flat_laws.specs.Back.{Bounded, both, short, short_fits, Represents, heads, read_as}

pub represents : (s : ℕ) (b : Body) → Bounded b → Represents b (flat_body s b)
represents s (Body.VorAzimuth t m c) h =
    record { codes = both (status_listed_lem t) (marker_listed_lem m); others = refl; body = λ i. Body.VorAzimuth (status_of_lem t i) (marker_of_lem m i) c }
represents s (Body.VorFrequency t f) h = record { codes = status_listed_lem t; others = refl; body = λ i. Body.VorFrequency (status_of_lem t i) f }
represents s (Body.IlsCourse t n c) h =
    record { codes = status_listed_lem t; others = flag-fits n; body = λ i. Body.IlsCourse (status_of_lem t i) (flag-of n i) c }
represents s (Body.IlsGlide t n c) h =
    record { codes = status_listed_lem t; others = flag-fits n; body = λ i. Body.IlsGlide (status_of_lem t i) (flag-of n i) c }
represents s (Body.IlsFrequency t k f) h =
    record { codes = both (status_listed_lem t) (category_listed k); others = refl; body = λ i. Body.IlsFrequency (status_of_lem t i) (category_of_lem k i) f }
represents s (Body.MlsFrequency t f) h = record { codes = status_listed_lem t; others = refl; body = λ i. Body.MlsFrequency (status_of_lem t i) f }
represents s (Body.MlsAzimuthDeviation t n l c) h =
    record {
      codes = status_listed_lem t;
      others = both (flag-fits n) (flag-fits l);
      body = λ i. Body.MlsAzimuthDeviation (status_of_lem t i) (flag-of n i) (flag-of l i) c;
    }
represents s (Body.MlsGlideDeviation t n l c) h =
    record {
      codes = status_listed_lem t;
      others = both (flag-fits n) (flag-fits l);
      body = λ i. Body.MlsGlideDeviation (status_of_lem t i) (flag-of n i) (flag-of l i) c;
    }
represents s (Body.SelectedAzimuth t m d) h =
    record {
      codes = status_listed_lem t;
      others = both (flag-fits m) (short_fits d h);
      body = λ i. Body.SelectedAzimuth (status_of_lem t i) (flag-of m i) (short d h i);
    }
represents s (Body.GreatestGlideAngle t d) h =
    record { codes = status_listed_lem t; others = short_fits d h; body = λ i. Body.GreatestGlideAngle (status_of_lem t i) (short d h i) }
represents s (Body.SelectedGlideAngle t m d) h =
    record {
      codes = status_listed_lem t;
      others = both (flag-fits m) (short_fits d h);
      body = λ i. Body.SelectedGlideAngle (status_of_lem t i) (flag-of m i) (short d h i);
    }
represents s (Body.Part1 n c) h = record { codes = refl; others = le-leb c 255 (omega arith); body = λ i. Body.Part1 n (mod-eq_of_lt h i) }
represents s (Body.Part2 c) h = record { codes = refl; others = short_fits c h; body = λ i. Body.Part2 (short c h i) }
represents s (Body.Part3 c) h = record { codes = refl; others = short_fits c h; body = λ i. Body.Part3 (short c h i) }
represents s (Body.Part4 g c) h =
    record { codes = refl; others = both (flag-fits g) (short_fits c h); body = λ i. Body.Part4 (flag-of g i) (short c h i) }

-- a record with a legal source, whose numbers their types hold, is what its numbers stand for
pub record_back : (r : Record) → r.source ≤ 3 → Bounded r.body → record_from (flat_of (Ok r)) ≡ Ok r
record_back r h b =
    let f : FlatRecord = flat_body r.source r.body in
    let k : Kind = kind_of r.body in
    let s = represents r.source r.body b in
    let source = (heads r.source r.body).1 in
    read_as r.source r.body
    ∙ all-kept k f (both (ap (λ (n : ℕ). leb n 3) source ∙ le-leb r.source 3 h) s.codes) s.others
    ∙ (λ i. Ok (record { source = source i; body = s.body i }))
