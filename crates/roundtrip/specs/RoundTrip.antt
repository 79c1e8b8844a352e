-- Decoding and encoding give each other back: for one word and its label, and so under every assignment of labels.
-- Assumes nothing.
use Rattle.std.specs.Prelude.{◌≡◌, refl, Bool, true, false, cond, ◌&&◌, List, [], ◌∷◌, ◌++◌, leb, Option, Some, Result, Ok, Err}
use Rattle.std.proofs.Math.Path.{sym, ap, subst}
use Rattle.std.proofs.Common.{ap₂, ◌∙◌, mod-lt, div-one, le-leb, leb-true, lit<, pow_pos}
use Prim.Native.Nat.{ℕ, ◌+◌, ◌*◌, ◌/◌, ◌%◌, ◌^◌, ◌<◌}
use native.Mathlib.Omega.{arith}
use Rattle.bits.specs.Fields.{bits}
use Rattle.bits.specs.Layout.{field, split, join, size, clear, Clear, Fit}
use Rattle.bits.specs.Laws.{both_true, join-split, split-join, clear_test, split-last, clear-last, contiguous-last, size-last, fit_last, join_last}
use Rattle.bits.specs.Parity.{with_parity, parity_bit, parity_only, parity_odd}
use Rattle.records.specs.Kinds.{kind_of}
use Rattle.records.specs.Layouts.{layout, lower_layout, word_layout}
use Rattle.records.proofs.Layouts.{whole, whole-size}
use Rattle.records.specs.declared.Kind.{Kind}
use Rattle.records.specs.declared.Record.{Record}
use Rattle.refusals.specs.declared.Refusal.{Refusal}
use Rattle.labels.specs.Label.{label_of}
use Rattle.labels.proofs.LabelLaws.{label_low, label_byte, label_twice, label_lt}
use Rattle.labels.specs.Assignment.{Assignment}
use Rattle.decode.specs.Decode.{record_of, decode_as, decode_with}
use Rattle.encode.specs.Fields.{fields_of, status_bits}
use Rattle.encode.specs.Encode.{codes_listed, values_legal, lower_as, word_as, word_of, record_label, encode_under, encode_with}
use Rattle.encode.proofs.Laws.{fields_fit, lower_lt}
use Rattle.roundtrip.specs.Reading.{ReadsAs, accepts, accepted_as}
use Rattle.roundtrip.specs.Back.{back}
use Rattle.roundtrip.specs.Forth.{at, forth}

-- ---- a word, decoded and encoded

lower_size : (k : Kind) → size (lower_layout k) ≡ 31
lower_size k = omega (arith, size-last (lower_layout k) 31 1, whole-size k)

-- the fields below the parity bit of a word that reads as kind k, joined, are its lower 31 bits
lower_back : (k : Kind) (w : ℕ) → clear (word_layout k) w ≡ true → join (lower_layout k) (split (lower_layout k) w) ≡ w % 2 ^ 31
lower_back k w z =
    join-split 0 (lower_layout k) w (contiguous-last 0 (lower_layout k) (field 32 32) (whole k))
    ((clear-last (lower_layout k) 31 1 w).0 ((clear_test (word_layout k) w).0 z))
    ∙ ap₂ (λ (x n : ℕ). x % 2 ^ n) (div-one w) (lower_size k)

word_back : (l : Option Kind) (w : ℕ) (k : Kind) → w < 2 ^ 32 → ReadsAs l w k → word_as (label_of w) (record_of k w) ≡ w
word_back l w k h r =
    let b = back k w r.kept in
    let lower : lower_as (label_of w) (record_of k w) ≡ w % 2 ^ 31 =
    (λ i. join (lower_layout (b.kind i)) (label_byte w i ∷ bits 9 10 w ∷ (b.fields i ++ (b.status i ∷ []))))
    ∙ ap (λ (vs : List ℕ). join (lower_layout k) (bits 1 8 w ∷ bits 9 10 w ∷ vs)) (sym (split-last (layout k) 29 2 w))
    ∙ lower_back k w r.zeros in
    ap (with_parity 31) lower ∙ parity_only 31 w (lit< tt) h r.parity

legal_under : (l : ℕ) (r : Record) → (leb r.source 3 && codes_listed r.body) ≡ true → values_legal r.body ≡ true → encode_under l r ≡ Ok (word_as l r)
legal_under l r c v = rw (c, v)

-- an accepted word is of the kind that was looked up, and its record under its label gives the word
pub record Rewritten (l : Option Kind) (w : ℕ) (r : Record) : Type 0 where
  pub found : l ≡ Some (kind_of r.body)
  pub word : encode_under (label_of w) r ≡ Ok w

pub rewritten : (l : Option Kind) (w : ℕ) (r : Record) → w < 2 ^ 32 → decode_as l w ≡ Ok r → Rewritten l w r
rewritten l w r h e =
    let s = accepted_as l w r e in
    let k = s.0 in
    let b = back k w s.1.kept in
    let c = ap₂ ◌&&◌ (le-leb (bits 9 10 w) 3 (omega (arith, mod-lt (w / 2 ^ 8) (pow_pos 2)))) b.codes in
    record {
      found = s.1.label ∙ ap Some (sym (ap (λ (q : Record). kind_of q.body) s.2 ∙ b.kind));
      word = ap (encode_under (label_of w)) s.2 ∙ legal_under (label_of w) (record_of k w) c b.values ∙ ap Ok (word_back l w k h s.1);
    }

-- and so does its record under an assignment
pub decode-encode : (a : Assignment) (w : ℕ) (r : Record) → w < 2 ^ 32 → decode_with a w ≡ Ok r → encode_with a r ≡ Ok w
decode-encode a w r h e =
    let b = rewritten (a.kind (label_of w)) w r h e in
    ap (λ (l : ℕ). encode_under l r) (a.only (label_of w) (kind_of r.body) b.found) ∙ b.word

-- ---- a record, encoded and decoded

-- a record that may be written: its source, its codes and its other fields pass
pub record Written (r : Record) : Type 0 where
  pub source : leb r.source 3 ≡ true
  pub codes : codes_listed r.body ≡ true
  pub values : values_legal r.body ≡ true

abbrev is_word : Result ℕ Refusal → ℕ
is_word (Ok w) = 1
is_word (Err f) = 0

pub cond_word : (b : Bool) (d : Result ℕ Refusal) (f : Refusal) (w : ℕ) → cond b d (Err f) ≡ Ok w → (b ≡ true) × (d ≡ Ok w)
cond_word true d f w e = (refl, e)
cond_word false d f w e = absurd (let z : 0 ≡ 1 = ap is_word e in omega arith)

pub written_under : (l : ℕ) (r : Record) (w : ℕ) → encode_under l r ≡ Ok w → Written r × (word_as l r ≡ w)
written_under l r w e =
    let c = cond_word (leb r.source 3 && codes_listed r.body) _ Refusal.Code w e in
    let v = cond_word (values_legal r.body) _ Refusal.Value w c.1 in
    let b = both_true (leb r.source 3) (codes_listed r.body) c.0 in
    let u : word_as l r ≡ w = cc in
    (record { source = b.0; codes = b.1; values = v.0 }, u)

pub written : (a : Assignment) (r : Record) (w : ℕ) → encode_with a r ≡ Ok w → Written r × (word_of a r ≡ w)
written a r w e = written_under (record_label a r) r w e

module _ (n : ℕ) (r : Record) (l : Written r) where
  source_lt : r.source < 4
  source_lt = omega (arith, leb-true r.source 3 l.source)

  byte : ℕ
  byte = label_of n

  values : List ℕ
  values = byte ∷ r.source ∷ (fields_of r.body ++ (status_bits r.body ∷ []))

  values_fit : Fit (lower_layout (kind_of r.body)) values
  unfolding values byte
  values_fit = (label_lt n, (source_lt, fields_fit r.body l.values))

  pub lower_small : lower_as n r < 2 ^ 31
  lower_small = lower_lt n r source_lt l.values

  -- the word of the record holds its values and zeros between them
  held : (split (word_layout (kind_of r.body)) (word_as n r) ≡ values ++ (parity_bit (lower_as n r) ∷ []))
      × Clear (word_layout (kind_of r.body)) (word_as n r)
  unfolding values byte
  held =
      let k : Kind = kind_of r.body in
      let p : ℕ = parity_bit (lower_as n r) in
      let j : join (word_layout k) (values ++ (p ∷ [])) * 2 ^ 0 + 0 ≡ word_as n r =
      omega (
        arith,
        join_last (lower_layout k) values 31 1 p values_fit
            ∙ ap (λ (m : ℕ). p * 2 ^ m + lower_as n r) (lower_size k),
      ) in
      subst (λ (x : ℕ). (split (word_layout k) x ≡ values ++ (p ∷ [])) × Clear (word_layout k) x) j
      (split-join 0 (word_layout k) (values ++ (p ∷ [])) 0 (whole k)
      (fit_last (lower_layout k) values 31 1 p values_fit (omega arith)) (lit< tt))

  pub label_back : n < 256 → label_of (word_as n r) ≡ n
  unfolding values byte
  label_back short = sym (label_low (word_as n r)) ∙ ap label_of (at 0 held.0) ∙ label_twice n short

  pub record_read : decode_as (Some (kind_of r.body)) (word_as n r) ≡ Ok r
  unfolding values byte
  record_read =
      let k : Kind = kind_of r.body in
      let w : ℕ = word_as n r in
      let f = forth r.body byte r.source (parity_bit (lower_as n r)) w l.codes l.values held.0 in
      accepts (Some k) w k
      (record {
        parity = parity_odd 31 (lower_as n r) (lit< tt) lower_small;
        label = refl;
        zeros = (clear_test (word_layout k) w).1 held.1;
        kept = f.0;
      })
      ∙ (λ i. Ok (record { source = at 1 held.0 i; body = f.1 i }))

-- what a word is that a record under a label gives: of 32 bits, with that label, and decoded as the record's kind it gives the record
pub record ReadBack (l : ℕ) (r : Record) (w : ℕ) : Type 0 where
  pub short : w < 2 ^ 32
  pub label : label_of w ≡ l
  pub decoded : decode_as (Some (kind_of r.body)) w ≡ Ok r
