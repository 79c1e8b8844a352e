-- The record that numbers stand for has those numbers in the fields of its kind, and zero in every other.
-- Assumes nothing.
use Rattle.std.specs.Prelude.{◌≡◌, refl, Bool, true, false, cond, ◌&&◌, ℕ, ◌%◌, eqb, leb, Option, Some, None, Result, Ok, Err}
use Rattle.std.proofs.Common.{mod-eq_of_lt, arith, leb-true}
use Rattle.bits.specs.Laws.{both_true}
use Rattle.codes.specs.Codes.{flag_bit}
use Rattle.records.specs.declared.Kind.{Kind}
use Rattle.records.specs.declared.Record.{Record}
use Rattle.refusals.specs.declared.Refusal.{Refusal}
use Rattle.flat_records.specs.Numbers.{status_number, with_count, with_value, part}
use Rattle.flat_records.specs.declared.FlatRecord.{FlatRecord}
use Rattle.flat_fields.specs.Fields.{status_of, status_listed, kind_at, listed, is_flag, is_octet, is_short, fits, record_as, record_of_kind}
use Rattle.flat_laws.specs.Codes.{status_number_lem, flag-number}

-- the numbers in the fields that a kind has
abbrev pub only : Kind → FlatRecord → FlatRecord
only Kind.VorAzimuth f = with_count f.kind f.source f.status f.marker 0 0 f.count
only Kind.VorFrequency f = with_value f.kind f.source f.status 0 0 f.value
only Kind.IlsCourse f = with_count f.kind f.source f.status 0 f.inhibit 0 f.count
only Kind.IlsGlide f = with_count f.kind f.source f.status 0 f.inhibit 0 f.count
only Kind.IlsFrequency f = with_value f.kind f.source f.status f.category 0 f.value
only Kind.MlsFrequency f = with_value f.kind f.source f.status 0 0 f.value
only Kind.MlsAzimuthDeviation f = with_count f.kind f.source f.status 0 f.inhibit f.clearance f.count
only Kind.MlsGlideDeviation f = with_count f.kind f.source f.status 0 f.inhibit f.clearance f.count
only Kind.SelectedAzimuth f = with_value f.kind f.source f.status 0 f.manual f.value
only Kind.GreatestGlideAngle f = with_value f.kind f.source f.status 0 0 f.value
only Kind.SelectedGlideAngle f = with_value f.kind f.source f.status 0 f.manual f.value
only Kind.Part1 f = part f.kind f.source 0 f.word_number f.value
only Kind.Part2 f = part f.kind f.source 0 0 f.value
only Kind.Part3 f = part f.kind f.source 0 0 f.value
only Kind.Part4 f = part f.kind f.source f.parity_good 0 f.value

abbrev pub only_found : Option Kind → FlatRecord → FlatRecord
only_found (Some k) f = only k f
only_found None f = f

-- the numbers that are looked at
abbrev pub kept : FlatRecord → FlatRecord
kept f = only_found (kind_at f.kind) f

pub short : (n : ℕ) → is_short n ≡ true → n % 65536 ≡ n
short n e = mod-eq_of_lt (omega (arith, leb-true n 65535 e))

pub octet : (n : ℕ) → is_octet n ≡ true → n % 256 ≡ n
octet n e = mod-eq_of_lt (omega (arith, leb-true n 255 e))

module _ (f : FlatRecord) where
  -- two flags beside a count, and a flag beside a value of 16 bits
  pub deviation : {n : ℕ} → n ≡ f.kind → status_listed f.status ≡ true → (is_flag f.inhibit && is_flag f.clearance) ≡ true
      → with_count n f.source (status_number (status_of f.status)) 0 (flag_bit (eqb f.inhibit 1)) (flag_bit (eqb f.clearance 1)) f.count
      ≡ with_count f.kind f.source f.status 0 f.inhibit f.clearance f.count
  deviation p c v =
      let a = both_true (is_flag f.inhibit) (is_flag f.clearance) v in
      λ i.
      with_count (p i) f.source (status_number_lem f.status c i) 0 (flag-number f.inhibit a.0 i) (flag-number f.clearance a.1 i)
      f.count

  pub setting : {n : ℕ} → n ≡ f.kind → status_listed f.status ≡ true → (is_flag f.manual && is_short f.value) ≡ true
      → with_value n f.source (status_number (status_of f.status)) 0 (flag_bit (eqb f.manual 1)) (f.value % 65536)
      ≡ with_value f.kind f.source f.status 0 f.manual f.value
  setting p c v =
      let a = both_true (is_flag f.manual) (is_short f.value) v in
      λ i. with_value (p i) f.source (status_number_lem f.status c i) 0 (flag-number f.manual a.0 i) (short f.value a.1 i)

-- a test that is passed
cond_accepted : (b : Bool) (d : Result Record Refusal) (e : Refusal) (r : Record) → cond b d (Err e) ≡ Ok r → (b ≡ true) × (d ≡ Ok r)
cond_accepted true d e r q = (refl, q)
cond_accepted false d e r q = let z : ◌≡◌ {A = ℕ} 0 1 = cc in absurd (omega arith)

-- what was tested where there is a record
pub record Passed (k : Kind) (f : FlatRecord) (r : Record) : Type 0 where
  pub source : leb f.source 3 ≡ true
  pub codes : listed k f ≡ true
  pub others : fits k f ≡ true
  pub reads : record_as k f ≡ r

pub passed : (k : Kind) (f : FlatRecord) (r : Record) → record_of_kind k f ≡ Ok r → Passed k f r
passed k f r e =
    let c = cond_accepted (leb f.source 3 && listed k f) _ Refusal.Code r e in
    let v = cond_accepted (fits k f) _ Refusal.Value r c.1 in
    let b = both_true (leb f.source 3) (listed k f) c.0 in
    let same : record_as k f ≡ r = cc in
    record { source = b.0; codes = b.1; others = v.0; reads = same }
