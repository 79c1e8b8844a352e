-- Decoding and encoding give each other back: for one word and its label, and so under every assignment of labels.
-- Assumes nothing.
use Rattle.std.specs.Prelude.{◌≡◌, Bool, cond, leb, Option, Ok, Err}
use Rattle.std.proofs.Math.Path.{ap, subst}
use Rattle.std.proofs.Common.{◌∙◌, le-leb, leb-true}
use Prim.Native.Nat.{ℕ, ◌^◌, ◌<◌}
use native.Mathlib.Omega.{arith}
use Rattle.bits.specs.Fields.{bits}
use Rattle.bits.specs.Parity.{parity_lt}
use Rattle.records.specs.Kinds.{kind_of}
use Rattle.records.specs.declared.Record.{Record}
use Rattle.refusals.specs.declared.Refusal.{Refusal}
use Rattle.labels.specs.Label.{label_of}
use Rattle.labels.proofs.LabelLaws.{label_lt}
use Rattle.labels.specs.Assignment.{Assignment}
use Rattle.records.specs.declared.Kind.{Kind}
use Rattle.decode.specs.Decode.{decode_as, decode_with}
use Rattle.encode.specs.Encode.{lower_as, record_label, encode_under, encode_as, encode_with}
use Rattle.roundtrip.specs.RoundTrip.{rewritten, cond_word, written_under, lower_small, label_back, record_read, ReadBack}

-- an accepted word's record, under the word's label, gives the word, whatever its label was looked up in
pub decode-encode_as : (l : Option Kind) (w : ℕ) (r : Record) → w < 2 ^ 32 → decode_as l w ≡ Ok r → encode_as (label_of w) r ≡ Ok w
decode-encode_as l w r h e =
    ap (λ (b : Bool). cond b (encode_under (label_of w) r) (Err Refusal.Label)) (le-leb (label_of w) 255 (omega (arith, label_lt w)))
    ∙ (rewritten l w r h e).word

back_under : (l : ℕ) (r : Record) (w : ℕ) → l < 256 → encode_under l r ≡ Ok w → ReadBack l r w
back_under l r w h e =
    let u = written_under l r w e in
    subst (ReadBack l r) u.1
    (record { short = parity_lt 31 (lower_as l r) (lower_small l r u.0); label = label_back l r u.0 h; decoded = record_read l r u.0 })

-- a record that is written under a label
pub encode-decode_as : (l : ℕ) (r : Record) (w : ℕ) → encode_as l r ≡ Ok w → ReadBack l r w
encode-decode_as l r w e =
    let c = cond_word (leb l 255) _ Refusal.Label w e in
    back_under l r w (omega (arith, leb-true l 255 c.0)) c.1

-- and under an assignment: it gives a word of 32 bits, and the word gives the record
pub encode-decode : (a : Assignment) (r : Record) (w : ℕ) → encode_with a r ≡ Ok w → (w < 2 ^ 32) × (decode_with a w ≡ Ok r)
encode-decode a r w e =
    let k = kind_of r.body in
    let b = back_under (record_label a r) r w (a.short k) e in
    (b.short, ap (λ (l : Option Kind). decode_as l w) (ap a.kind b.label ∙ a.found k) ∙ b.decoded)
