-- The record that numbers stand for has those numbers in the fields of its kind, and zero in every other.
-- Assumes nothing.
use Rattle.std.specs.Prelude.{◌≡◌, refl, true, ℕ, leb, Option, Some, None, Ok}
use Rattle.std.proofs.Common.{sym, ap, ◌∙◌, arith}
use Rattle.bits.specs.Laws.{both_true}
use Rattle.codes.specs.Codes.{marker_listed, marker_code_lem}
use Rattle.records.specs.All.{place_of}
use Rattle.records.specs.declared.Kind.{Kind}
use Rattle.records.specs.declared.Record.{Record}
use Rattle.flat_records.specs.Numbers.{with_count, with_value, part, flat_body, flat_of}
use Rattle.flat_records.specs.declared.FlatRecord.{FlatRecord}
use Rattle.flat_fields.specs.Fields.{status_listed, kind_at, listed, is_flag, is_short, fits, body_from, record_found, record_from}
use Rattle.flat_laws.specs.Codes.{place_of_lem, status_number_lem, category_number, flag-number}
use Rattle.flat_laws.specs.Forth.{only, only_found, kept, short, octet, deviation, setting, passed}

module _ (f : FlatRecord) where
  -- the numbers of what a kind reads are those that it read
  body_forth : (k : Kind) → place_of k ≡ f.kind → listed k f ≡ true → fits k f ≡ true → flat_body f.source (body_from k f) ≡ only k f
  body_forth Kind.VorAzimuth p c v =
      let a = both_true (status_listed f.status) (marker_listed f.marker) c in
      λ i. with_count (p i) f.source (status_number_lem f.status a.0 i) (marker_code_lem f.marker a.1 i) 0 0 f.count
  body_forth Kind.VorFrequency p c v = λ i. with_value (p i) f.source (status_number_lem f.status c i) 0 0 f.value
  body_forth Kind.IlsCourse p c v =
      λ i. with_count (p i) f.source (status_number_lem f.status c i) 0 (flag-number f.inhibit v i) 0 f.count
  body_forth Kind.IlsGlide p c v =
      λ i. with_count (p i) f.source (status_number_lem f.status c i) 0 (flag-number f.inhibit v i) 0 f.count
  body_forth Kind.IlsFrequency p c v =
      let a = both_true (status_listed f.status) (leb f.category 3) c in
      λ i. with_value (p i) f.source (status_number_lem f.status a.0 i) (category_number f.category a.1 i) 0 f.value
  body_forth Kind.MlsFrequency p c v = λ i. with_value (p i) f.source (status_number_lem f.status c i) 0 0 f.value
  body_forth Kind.MlsAzimuthDeviation p c v = (deviation f) p c v
  body_forth Kind.MlsGlideDeviation p c v = (deviation f) p c v
  body_forth Kind.SelectedAzimuth p c v = (setting f) p c v
  body_forth Kind.GreatestGlideAngle p c v =
      λ i. with_value (p i) f.source (status_number_lem f.status c i) 0 0 (short f.value v i)
  body_forth Kind.SelectedGlideAngle p c v = (setting f) p c v
  body_forth Kind.Part1 p c v = λ i. part (p i) f.source 0 f.word_number (octet f.value v i)
  body_forth Kind.Part2 p c v = λ i. part (p i) f.source 0 0 (short f.value v i)
  body_forth Kind.Part3 p c v = λ i. part (p i) f.source 0 0 (short f.value v i)
  body_forth Kind.Part4 p c v =
      let a = both_true (is_flag f.parity_good) (is_short f.value) v in
      λ i. part (p i) f.source (flag-number f.parity_good a.0 i) 0 (short f.value a.1 i)

found_forth : (f : FlatRecord) (r : Record) (l : Option Kind) → kind_at f.kind ≡ l → record_found l f ≡ Ok r
    → flat_of (Ok r) ≡ only_found l f
found_forth f r (Some k) q e =
    let p = passed k f r e in
    sym (ap (λ (x : Record). flat_of (Ok x)) p.reads) ∙ body_forth f k (place_of_lem f.kind k q) p.codes p.others
found_forth f r None q e = let z : ◌≡◌ {A = ℕ} 0 1 = cc in absurd (omega arith)

-- numbers that stand for a record are the record's numbers, in the fields that are looked at
pub record_forth : (f : FlatRecord) (r : Record) → record_from f ≡ Ok r → flat_of (Ok r) ≡ kept f
record_forth f r e = found_forth f r (kind_at f.kind) refl e
