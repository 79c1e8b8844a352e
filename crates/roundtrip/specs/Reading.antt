-- What it takes that a word is accepted: every test passes, and the record is the one that its kind reads.
-- Assumes nothing.
use Rattle.std.specs.Prelude.{◌≡◌, refl, Bool, true, false, cond, ℕ, Option, Some, None, Result, Ok, Err}
use Rattle.std.proofs.Common.{ap, arith}
use Rattle.bits.specs.Layout.{clear}
use Rattle.bits.specs.Parity.{odd}
use Rattle.records.specs.Layouts.{word_layout}
use Rattle.records.specs.declared.Kind.{Kind}
use Rattle.records.specs.declared.Record.{Record}
use Rattle.refusals.specs.declared.Refusal.{Refusal}
use Rattle.labels.specs.Label.{label_of}
use Rattle.labels.specs.Assignment.{Assignment}
use Rattle.decode.specs.Rules.{Rules, rules}
use Rattle.decode.specs.Decode.{judgement, record_of, judged, decode_kind, decode_found, decode_as, decode_with}

-- all four tests of a kind pass
pub record Kept (r : Rules) : Type 0 where
  pub digits : r.digits ≡ true
  pub codes : r.codes ≡ true
  pub value : r.value ≡ true
  pub angle : r.angle ≡ true

-- a word, looked up as kind k, that passes every test
pub record ReadsAs (l : Option Kind) (w : ℕ) (k : Kind) : Type 0 where
  pub parity : odd w ≡ true
  pub label : l ≡ Some k
  pub zeros : clear (word_layout k) w ≡ true
  pub kept : Kept (rules k w)

abbrev pub Reads : Assignment → ℕ → Kind → Type 0
Reads a w k = ReadsAs (a.kind (label_of w)) w k

-- such a word is accepted
pub accepts : (l : Option Kind) (w : ℕ) (k : Kind) → ReadsAs l w k → decode_as l w ≡ Ok (record_of k w)
accepts l w k r =
    rw (r.parity, r.label, r.zeros, r.kept.digits, r.kept.codes, r.kept.value, r.kept.angle)

-- ---- and an accepted word is such a word

abbrev is_kept : Result Unit Refusal → ℕ
is_kept (Ok tt) = 1
is_kept (Err f) = 0

abbrev is_accepted : Result Record Refusal → ℕ
is_accepted (Ok r) = 1
is_accepted (Err f) = 0

all-kept : (d c v n : Bool) → judgement (record { digits = d; codes = c; value = v; angle = n }) ≡ Ok tt
    → Kept (record { digits = d; codes = c; value = v; angle = n })
all-kept true true true true e = record { digits = refl; codes = refl; value = refl; angle = refl }
all-kept true true true false e = absurd (let z : 0 ≡ 1 = ap is_kept e in omega arith)
all-kept true true false n e = absurd (let z : 0 ≡ 1 = ap is_kept e in omega arith)
all-kept true false v n e = absurd (let z : 0 ≡ 1 = ap is_kept e in omega arith)
all-kept false c v n e = absurd (let z : 0 ≡ 1 = ap is_kept e in omega arith)

judged-accepted : (v : Result Unit Refusal) (r s : Record) → judged v r ≡ Ok s → (v ≡ Ok tt) × (s ≡ r)
judged-accepted (Ok tt) r s e = (refl, cc)
judged-accepted (Err f) r s e = absurd (let z : 0 ≡ 1 = ap is_accepted e in omega arith)

cond_accepted : (b : Bool) (d : Result Record Refusal) (f : Refusal) (r : Record) → cond b d (Err f) ≡ Ok r → (b ≡ true) × (d ≡ Ok r)
cond_accepted true d f r e = (refl, e)
cond_accepted false d f r e = absurd (let z : 0 ≡ 1 = ap is_accepted e in omega arith)

found-accepted : (l : Option Kind) (w : ℕ) (r : Record) → decode_found l w ≡ Ok r → (k : Kind) × (l ≡ Some k) × (decode_kind k w ≡ Ok r)
found-accepted (Some k) w r e = (k, refl, e)
found-accepted None w r e = absurd (let z : 0 ≡ 1 = ap is_accepted e in omega arith)

pub accepted_as : (l : Option Kind) (w : ℕ) (r : Record) → decode_as l w ≡ Ok r → (k : Kind) × ReadsAs l w k × (r ≡ record_of k w)
accepted_as l w r e =
    let p = cond_accepted (odd w) (decode_found l w) Refusal.Parity r e in
    let f = found-accepted l w r p.1 in
    let k = f.0 in
    let z = cond_accepted (clear (word_layout k) w) (judged (judgement (rules k w)) (record_of k w)) Refusal.ZeroBit r f.2 in
    let j = judged-accepted (judgement (rules k w)) (record_of k w) r z.1 in (
      k,
      record {
        parity = p.0;
        label = f.1;
        zeros = z.0;
        kept = all-kept (rules k w).digits (rules k w).codes (rules k w).value (rules k w).angle j.0;
      },
      j.1,
    )

pub accepted : (a : Assignment) (w : ℕ) (r : Record) → decode_with a w ≡ Ok r → (k : Kind) × Reads a w k × (r ≡ record_of k w)
accepted a w r e = accepted_as (a.kind (label_of w)) w r e
