-- Demand 2: a word is accepted exactly when the layouts of document 01 allow it, and accepted words and legal records give each other back.
-- Stated under every one-to-one assignment of labels to kinds; document 01's is `document01`.
-- Assumes nothing.
use Rattle.std.specs.Prelude.{◌≡◌, refl, Bool, true, false, ◌&&◌, ◌↔◌, ◌⊎◌, ℕ, ◌^◌, ◌<◌, leb, Ok, Err, Result}
use Rattle.std.proofs.Common.{ap₂, inl, inr}
use Rattle.statuses.specs.declared.Status.{Status}
use Rattle.records.specs.Kinds.{kind_of}
use Rattle.records.specs.declared.Record.{Record}
use Rattle.refusals.specs.Order.{FirstBroken}
use Rattle.refusals.specs.declared.Refusal.{Refusal}
use Rattle.labels.specs.Assignment.{Assignment}
use Rattle.decode.specs.Decode.{decode_with}
use Rattle.encode.specs.Encode.{codes_listed, encode_with}
use Rattle.roundtrip.specs.RoundTrip.{Written}
use Rattle.readings.specs.Readings.{reading_of}
use Rattle.readings.specs.Meaning.{HasReading, IsTest}
use Rattle.demands.specs.Holds.{Holds, StatusIs}
use Rattle.demands.specs.Allowed.{Allowed}
use Rattle.demands.specs.Order.{word_rules}
use Rattle.demands.specs.Legal.{LegalCodes, LegalValues, Legal}

pub record Demand2 (a : Assignment) : Type 0 where
  -- "A word is accepted exactly when the layouts in document 01 .. allow it."
  pub accepted : (w : ℕ) → w < 2 ^ 32 → ((r : Record) × (decode_with a w ≡ Ok r)) ↔ Allowed a w
  -- Its record is the one that its own bits hold: a word has a record exactly when the layouts allow the word and it holds that record.
  pub held : (w : ℕ) (r : Record) → w < 2 ^ 32 → (decode_with a w ≡ Ok r) ↔ (Allowed a w × Holds a w r)
  -- It is refused with the first rule that it breaks, in the order 1, 2, 3, 5, 4, 6, 7.
  pub refused : (w : ℕ) (f : Refusal) → w < 2 ^ 32 → (decode_with a w ≡ Err f) ↔ FirstBroken (word_rules a w) f
  -- "Each accepted word has one record and each legal record one word, and they give each other back."
  pub word_back : (w : ℕ) (r : Record) → w < 2 ^ 32 → decode_with a w ≡ Ok r → encode_with a r ≡ Ok w
  pub record_back : (r : Record) (w : ℕ) → encode_with a r ≡ Ok w → (w < 2 ^ 32) × (decode_with a w ≡ Ok r)
  pub legal : (r : Record) → Legal r ↔ ((w : ℕ) × (encode_with a r ≡ Ok w))
  -- The other records are refused: with 4 if a code or the source is outside its list, else with 6.
  pub code : (r : Record) → (LegalCodes r → ⊥) → encode_with a r ≡ Err Refusal.Code
  pub value : (r : Record) → LegalCodes r → (LegalValues r → ⊥) → encode_with a r ≡ Err Refusal.Value
  -- So two accepted words do not share a record, and two legal records do not share a word.
  pub one_word : (w v : ℕ) (r : Record) → w < 2 ^ 32 → v < 2 ^ 32 → decode_with a w ≡ Ok r → decode_with a v ≡ Ok r → w ≡ v
  pub one_record : (r s : Record) (w : ℕ) → encode_with a r ≡ Ok w → encode_with a s ≡ Ok w → r ≡ s
  -- "A reading is shown exactly when the status says ready or test": bits 30 and 31 of the word. It is marked as a test's exactly when they say test.
  pub shown : (w : ℕ) (r : Record) → w < 2 ^ 32 → decode_with a w ≡ Ok r
      → HasReading (reading_of r.body) ↔ (StatusIs (kind_of r.body) Status.Ready w ⊎ StatusIs (kind_of r.body) Status.Test w)
  pub marked : (w : ℕ) (r : Record) → w < 2 ^ 32 → decode_with a w ≡ Ok r → IsTest (reading_of r.body) ↔ StatusIs (kind_of r.body) Status.Test w

-- ---- proofs

pub same_word : {w v : ℕ} → ◌≡◌ {A = Result ℕ Refusal} (Ok w) (Ok v) → w ≡ v
same_word e = cc

pub same_record : {r s : Record} → ◌≡◌ {A = Result Record Refusal} (Ok r) (Ok s) → r ≡ s
same_record e = cc

-- a test fails where what it says does not hold
pub no : {b : Bool} {P : Type 0} → (b ≡ true) ↔ P → (P → ⊥) → b ≡ false
no {b} t n = by b refl
  where
    by : (c : Bool) → b ≡ c → b ≡ false
    by true e = absurd (n (t.0 e))
    by false e = e

pub both : {r : Record} → Written r → (leb r.source 3 && codes_listed r.body) ≡ true
both l = ap₂ ◌&&◌ l.source l.codes

pub either : {A B C D : Type 0} → A ↔ B → C ↔ D → (A ⊎ C) ↔ (B ⊎ D)
either p q = (elim [ inl x ↦ inl (p.0 x) | inr x ↦ inr (q.0 x) ], elim [ inl x ↦ inl (p.1 x) | inr x ↦ inr (q.1 x) ])

pub through : {A B C : Type 0} → A ↔ B → B ↔ C → A ↔ C
through p q = (λ x. q.0 (p.0 x), λ x. p.1 (q.1 x))
