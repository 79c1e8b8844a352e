-- The word that a figure is coded to: under the label of a quantity and a legal source it is the word of the nearest count, which
-- decoding gives back.
-- Assumes nothing.
use Rattle.std.specs.Prelude.{◌≡◌, refl, Bool, true, ◌&&◌, ◌≢◌, ℕ, suc, ◌≤◌, ◌<◌, ◌^◌, leb, ℤ, pos, negsuc, ◌≤ℤ◌, Option, Some, None, Ok, Err}
use Rattle.std.proofs.Common.{sym, ap, subst, ◌∙◌, arith, lt-ltb, le-leb, leb→le}
use Rattle.std.proofs.lemmas.Bool.{lt-leb}
use Rattle.std.specs.Int.Signed.{mag}
use Rattle.records.specs.All.{agree}
use Rattle.records.specs.Kinds.{kind_of}
use Rattle.records.specs.declared.AzimuthCount.{AzimuthCount}
use Rattle.records.specs.declared.CourseCount.{CourseCount}
use Rattle.records.specs.declared.GlideCount.{GlideCount}
use Rattle.records.specs.declared.Kind.{Kind}
use Rattle.records.specs.declared.MlsCount.{MlsCount}
use Rattle.records.specs.declared.Record.{Record}
use Rattle.refusals.specs.declared.Refusal.{Refusal}
use Rattle.labels.specs.Assignment.{Assignment}
use Rattle.labels.specs.Label.{label_of}
use Rattle.decode.specs.Rules.{body_of}
use Rattle.decode.specs.Decode.{record_of, decode_with}
use Rattle.encode.specs.Encode.{codes_listed, values_legal, word_as, word_of, encode_with, all_legal_lem}
use Rattle.roundtrip.specs.Reading.{Reads, accepted}
use Rattle.roundtrip.specs.Back.{back}
use Rattle.roundtrip.proofs.RoundTrip.{encode-decode}
use Rattle.quantities.specs.Scale.{scale_of}
use Rattle.quantities.specs.Nearest.{nearest_count}
use Rattle.quantities.specs.Statements.{LegalCount}
use Rattle.quantities.specs.declared.Quantity.{Quantity}
use Rattle.quantities.specs.declared.Quantity.TheVariants.{Azimuth, Course, Glide, MlsAzimuth, MlsGlide}
use Rattle.figures.specs.Coding.{quantity_of, kind_for, label_for, quantity_at, quantity_found, ready_body, ready_record, coded_nearest, coded_under, coded_measured, coded_with}
use Rattle.figures.specs.Demand.{count_bits, ReadyWord}

-- ---- the label of a quantity

quantity_of_kind : (q : Quantity) → quantity_of (kind_for q) ≡ Some q
quantity_of_kind Azimuth = refl
quantity_of_kind Course = refl
quantity_of_kind Glide = refl
quantity_of_kind MlsAzimuth = refl
quantity_of_kind MlsGlide = refl

pub quantity_of_label : (a : Assignment) (q : Quantity) → quantity_at a (label_for a q) ≡ Some q
quantity_of_label a q = ap quantity_found (a.found (kind_for q)) ∙ quantity_of_kind q

-- a kind that measures a quantity is the kind of that quantity
abbrev kind_by : Kind → Option Quantity → Kind
kind_by k (Some q) = kind_for q
kind_by k None = k

kind_by_quantity : (k : Kind) → kind_by k (quantity_of k) ≡ k
kind_by_quantity = agree (λ k. kind_by k (quantity_of k)) (λ k. k) refl

-- so the label of a quantity is the only one that measures it
pub label_of_quantity : (a : Assignment) (label : ℕ) (q : Quantity) → quantity_at a label ≡ Some q → label_for a q ≡ label
label_of_quantity a label q = go (a.kind label) refl
  where
    go : (f : Option Kind) → a.kind label ≡ f → quantity_found f ≡ Some q → label_for a q ≡ label
    go (Some k) e h = ap a.label (ap (kind_by k) (sym h) ∙ kind_by_quantity k) ∙ a.only label k e
    go None e h = absurd (let z : ◌≡◌ {A = ℕ} 0 1 = cc in omega arith)

-- which has 8 bits
pub measured_short : (a : Assignment) (label : ℕ) (q : Quantity) → quantity_at a label ≡ Some q → label < 256
measured_short a label q e = subst (λ (l : ℕ). l < 256) (label_of_quantity a label q e) (a.short (kind_for q))

-- any other label measures nothing
pub unmeasured : (a : Assignment) (label : ℕ) → ((q : Quantity) → label ≢ label_for a q) → quantity_at a label ≡ None
unmeasured a label other = go (quantity_at a label) refl
  where
    go : (m : Option Quantity) → quantity_at a label ≡ m → m ≡ None
    go (Some q) e = absurd (other q (sym (label_of_quantity a label q e)))
    go None e = refl

-- a label of more than 8 bits is unknown
pub unknown : (a : Assignment) (l : ℕ) → 256 ≤ l → a.kind l ≡ None
unknown a l h = go (a.kind l) refl
  where
    go : (f : Option Kind) → a.kind l ≡ f → a.kind l ≡ None
    go (Some k) e = absurd (omega (arith, a.only l k e, a.short k))
    go None e = e

-- ---- a legal count is one that the word's bits hold

pub ready_kind : (q : Quantity) (c : ℤ) → kind_of (ready_body q c) ≡ kind_for q
ready_kind Azimuth c = refl
ready_kind Course c = refl
ready_kind Glide c = refl
ready_kind MlsAzimuth c = refl
ready_kind MlsGlide c = refl

ready_listed : (q : Quantity) (c : ℤ) → codes_listed (ready_body q c) ≡ true
ready_listed Azimuth c = refl
ready_listed Course c = refl
ready_listed Glide c = refl
ready_listed MlsAzimuth c = refl
ready_listed MlsGlide c = refl

within : (n : ℕ) (c : ℤ) → negsuc n ≤ℤ c → c ≤ℤ pos n → mag c < suc n
within n (pos k) l h = omega (arith, leb→le k n h.le)
within n (negsuc k) l h = omega (arith, leb→le k n l.le)

ready_legal : (q : Quantity) (c : ℤ) → LegalCount (scale_of q) c → values_legal (ready_body q c) ≡ true
ready_legal Azimuth c l = lt-ltb (mag c) 4096 (within 4095 c l.0 l.1)
ready_legal Course c l = lt-ltb (mag c) 4096 (within 4095 c l.0 l.1)
ready_legal Glide c l = lt-ltb (mag c) 4096 (within 4095 c l.0 l.1)
ready_legal MlsAzimuth c l = lt-ltb (mag c) 32768 (within 32767 c l.0 l.1)
ready_legal MlsGlide c l = lt-ltb (mag c) 32768 (within 32767 c l.0 l.1)

-- under the label of its quantity
ready_under : (a : Assignment) (q : Quantity) (source : ℕ) (c : ℤ) → word_of a (ready_record q source c) ≡ word_as (label_for a q) (ready_record q source c)
ready_under a q source c = ap (λ (k : Kind). word_as (a.label k) (ready_record q source c)) (ready_kind q c)

ready_encoded : (a : Assignment) (q : Quantity) (source : ℕ) (c : ℤ) → source ≤ 3 → LegalCount (scale_of q) c
    → encode_with a (ready_record q source c) ≡ Ok (word_as (label_for a q) (ready_record q source c))
ready_encoded a q source c s l =
    all_legal_lem a (ready_record q source c)
    (ap (λ (b : Bool). leb source 3 && b) (ready_listed q c) ∙ ap (λ (b : Bool). b && true) (le-leb source 3 s))
    (ready_legal q c l)
    ∙ ap Ok (ready_under a q source c)

-- ---- the word of a legal count

-- the count of a ready record is what the word's count bits hold
count_held : (q : Quantity) (w : ℕ) (c : ℤ) → body_of (kind_for q) w ≡ ready_body q c → count_bits q w ≡ c
count_held Azimuth w c e = let h : ◌≡◌ {A = AzimuthCount} (record { 0 = count_bits Azimuth w }) (record { 0 = c }) = cc in ap (λ (n : AzimuthCount). n.0) h
count_held Course w c e = let h : ◌≡◌ {A = CourseCount} (record { 0 = count_bits Course w }) (record { 0 = c }) = cc in ap (λ (n : CourseCount). n.0) h
count_held Glide w c e = let h : ◌≡◌ {A = GlideCount} (record { 0 = count_bits Glide w }) (record { 0 = c }) = cc in ap (λ (n : GlideCount). n.0) h
count_held MlsAzimuth w c e = let h : ◌≡◌ {A = MlsCount} (record { 0 = count_bits MlsAzimuth w }) (record { 0 = c }) = cc in ap (λ (n : MlsCount). n.0) h
count_held MlsGlide w c e = let h : ◌≡◌ {A = MlsCount} (record { 0 = count_bits MlsGlide w }) (record { 0 = c }) = cc in ap (λ (n : MlsCount). n.0) h

module _ (a : Assignment) (q : Quantity) (source : ℕ) (c : ℤ) (s : source ≤ 3) (l : LegalCount (scale_of q) c) where
  abbrev word : ℕ
  word = word_as (label_for a q) (ready_record q source c)

  pub ready_decoded : (word < 2 ^ 32) × (decode_with a word ≡ Ok (ready_record q source c))
  ready_decoded = encode-decode a (ready_record q source c) word (ready_encoded a q source c s l)

  reads : (k : Kind) × Reads a word k × (ready_record q source c ≡ record_of k word)
  reads = accepted a word (ready_record q source c) ready_decoded.1

  kind : reads.0 ≡ kind_for q
  kind =
      sym (back reads.0 word reads.1.kept).kind
      ∙ ap (λ (r : Record). kind_of r.body) (sym reads.2)
      ∙ ready_kind q c

  -- its count bits hold the count
  pub ready_count_lem : count_bits q word ≡ c
  ready_count_lem = count_held q word c (ap (λ (k : Kind). body_of k word) (sym kind) ∙ ap (λ (r : Record). r.body) (sym reads.2))

  pub ready_word : ReadyWord a q source word
  ready_word =
      record {
        size = ready_decoded.0;
        label = sym (a.only (label_of word) reads.0 reads.1.label) ∙ ap a.label kind;
        accepted = ready_decoded.1 ∙ ap (λ (x : ℤ). Ok (ready_record q source x)) (sym ready_count_lem);
      }

-- ---- one step of the order at a time

pub legal_source : (q : Quantity) (label source : ℕ) (figure : ℤ) → source ≤ 3
    → coded_under q label source figure ≡ coded_nearest q label source (nearest_count q figure)
legal_source q label source figure s = rw (le-leb source 3 s)

pub illegal_source : (q : Quantity) (label source : ℕ) (figure : ℤ) → 3 < source
    → coded_under q label source figure ≡ Err Refusal.Code
illegal_source q label source figure s = rw (lt-leb source 3 s)

-- under the label of a quantity that quantity is coded
pub coded_under_lem : (a : Assignment) (q : Quantity) (source : ℕ) (figure : ℤ) → coded_with a (label_for a q) source figure ≡ coded_under q (label_for a q) source figure
coded_under_lem a q source figure = ap (λ (m : Option Quantity). coded_measured m (label_for a q) source figure) (quantity_of_label a q)

-- and with a legal source the nearest count
pub coded_nearest_lem : (a : Assignment) (q : Quantity) (source : ℕ) (figure : ℤ) → source ≤ 3
    → coded_with a (label_for a q) source figure ≡ coded_nearest q (label_for a q) source (nearest_count q figure)
coded_nearest_lem a q source figure s = coded_under_lem a q source figure ∙ legal_source q (label_for a q) source figure s
