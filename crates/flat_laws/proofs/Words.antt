-- Words as numbers: a word gives numbers that are written to that word, and numbers that are written to a word are its own. The order of the
-- refusals of numbers: 2, then 4, then 6.
-- Assumes nothing.
use Rattle.std.specs.Prelude.{◌≡◌, refl, Bool, true, false, ◌&&◌, ℕ, ◌^◌, ◌<◌, leb, Some, Result, Ok, Err}
use Rattle.std.proofs.Common.{sym, ap, ◌∙◌, arith, leb-true}
use Rattle.records.specs.Kinds.{kind_of}
use Rattle.records.specs.declared.Kind.{Kind}
use Rattle.records.specs.declared.Record.{Record}
use Rattle.refusals.specs.declared.Refusal.{Refusal}
use Rattle.labels.proofs.Assignment.{document01}
use Rattle.decode.specs.Decode.{decode_of}
use Rattle.encode.specs.Encode.{codes_listed, encode_of}
use Rattle.encode.proofs.Encode.{codes_broken}
use Rattle.roundtrip.specs.RoundTrip.{decode-encode, written}
use Rattle.roundtrip.proofs.RoundTrip.{encode-decode}
use Rattle.flat_records.specs.Numbers.{flat_body, flat_of}
use Rattle.flat_records.specs.declared.FlatRecord.{FlatRecord}
use Rattle.flat_fields.specs.Fields.{kind_at, listed, fits, body_from, record_from}
use Rattle.flat_fields.specs.Fields.{codes_broken as numbers-broken}
use Rattle.flat_words.specs.Words.{flat_word, encoded, encode_flat}
use Rattle.flat_laws.specs.Back.{Bounded, legal_bounded, heads, read_as}
use Rattle.flat_laws.proofs.Back.{record_back}
use Rattle.flat_laws.specs.Forth.{kept}
use Rattle.flat_laws.proofs.Forth.{record_forth}
use Rattle.flat_laws.specs.Words.{is_word_lem, refused_by, all_listed, by_tests}

-- the numbers of an accepted word are written to that word
pub word_back : (w : ℕ) (r : Record) → w < 2 ^ 32 → decode_of w ≡ Ok r → encode_flat (flat_of (decode_of w)) ≡ record { refusal = 0; word = w }
word_back w r h e =
    let back = decode-encode document01 w r h e in
    let legal = (written document01 r w back).0 in
    ap (λ (d : Result Record Refusal). encode_flat (flat_of d)) e
    ∙ ap (λ (d : Result Record Refusal). flat_word (encoded d)) (record_back r (leb-true r.source 3 legal.source) (legal_bounded r.body legal.values))
    ∙ ap flat_word back

-- the numbers of any record that their types hold are written to what the record is written to, and refused as it is
pub encode-alike : (r : Record) → Bounded r.body → encode_flat (flat_of (Ok r)) ≡ flat_word (encode_of r)
encode-alike r h = by (leb r.source 3) refl
  where
    by : (b : Bool) → leb r.source 3 ≡ b → encode_flat (flat_of (Ok r)) ≡ flat_word (encode_of r)
    by true e = ap (λ (d : Result Record Refusal). flat_word (encoded d)) (record_back r (leb-true r.source 3 e) h)
    by false e =
        let k = kind_of r.body in
        let f = flat_body r.source r.body in
        let outside = ap (λ (n : ℕ). leb n 3) (heads r.source r.body).1 ∙ e in
        ap (λ (d : Result Record Refusal). flat_word (encoded d)) (read_as r.source r.body ∙ numbers-broken k f (ap (λ (x : Bool). x && listed k f) outside))
        ∙ sym (ap flat_word (codes_broken document01 r (ap (λ (x : Bool). x && codes_listed r.body) e)))

numbers_forth : (f : FlatRecord) (w : ℕ) (d : Result Record Refusal) → record_from f ≡ d → encoded d ≡ Ok w → (w < 2 ^ 32) × (flat_of (decode_of w) ≡ kept f)
numbers_forth f w (Ok r) q e =
    let forth = encode-decode document01 r w e in
    (forth.0, ap flat_of forth.1 ∙ record_forth f r q)
numbers_forth f w (Err x) q e = let z : ◌≡◌ {A = ℕ} 0 1 = cc in absurd (omega arith)

-- numbers that are written to a word are the word's own, in the fields that are looked at
pub numbers-back : (f : FlatRecord) (w : ℕ) → encode_flat f ≡ record { refusal = 0; word = w } → (w < 2 ^ 32) × (flat_of (decode_of w) ≡ kept f)
numbers-back f w e = numbers_forth f w (record_from f) refl (is_word_lem (encoded (record_from f)) w e)

module _ (f : FlatRecord) (k : Kind) (known : kind_at f.kind ≡ Some k) where
  -- 4: a code or the source is outside its list, whatever the other fields are
  pub code_first : all_listed k f ≡ false → encode_flat f ≡ refused_by Refusal.Code
  code_first e = (by_tests f k known) (leb f.source 3 && listed k f) (codes_listed (body_from k f)) (fits k f) refl refl refl e
