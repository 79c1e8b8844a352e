-- Demand 2: a word is accepted exactly when the layouts of document 01 allow it, and accepted words and legal records give each other back.
-- Stated under every one-to-one assignment of labels to kinds; document 01's is `document01`.
-- Assumes nothing.
use Rattle.std.specs.Prelude.{◌≡◌, refl, ℕ, Some, Ok}
use Rattle.std.proofs.Common.{sym, ap, ◌∙◌}
use Rattle.std.proofs.Math.Path.{subst⁻¹}
use Rattle.statuses.specs.declared.Status.{Status}
use Rattle.records.specs.All.{agree}
use Rattle.records.specs.Kinds.{kind_of}
use Rattle.records.specs.declared.Kind.{Kind}
use Rattle.records.specs.declared.Record.{Record}
use Rattle.labels.specs.Label.{label_of}
use Rattle.labels.specs.Assignment.{Assignment}
use Rattle.decode.specs.Rules.{body_of}
use Rattle.decode.specs.Decode.{record_of, decode_with}
use Rattle.encode.specs.Encode.{word_of, values_broken, all_legal_lem}
use Rattle.encode.proofs.Encode.{codes_broken}
use Rattle.roundtrip.specs.Reading.{accepted}
use Rattle.roundtrip.specs.RoundTrip.{written, decode-encode}
use Rattle.roundtrip.proofs.RoundTrip.{encode-decode}
use Rattle.readings.proofs.Meaning.{reading_exactly, test_exactly}
use Rattle.demands.specs.Holds.{Holds}
use Rattle.demands.specs.HoldsLemmas.{label_bits, source_bits, status_says}
use Rattle.demands.proofs.HoldsLemmas.{holds, only}
use Rattle.demands.proofs.TestsLemmas.{tested}
use Rattle.demands.proofs.JudgementLemmas.{word_order, allowed}
use Rattle.demands.specs.WritingLemmas.{legal_codes_test}
use Rattle.demands.proofs.WritingLemmas.{values_test}
use Rattle.demands.specs.Words.{Demand2, same_word, same_record, no, both, either, through}

module _ (a : Assignment) (w : ℕ) where
  -- what an accepted word holds
  word_holds : (r : Record) → decode_with a w ≡ Ok r → Holds a w r
  word_holds r e =
      let s = accepted a w r e in
      let k = s.0 in
      subst⁻¹ (Holds a w) s.2
      (record {
        label = ap a.label (agree (λ (j : Kind). kind_of (body_of j w)) (λ j. j) refl k) ∙ a.only (label_of w) k s.1.label ∙ label_bits w;
        source = source_bits w;
        body = holds k w ((tested k w).codes.0 s.1.kept.codes);
      })

  -- the record that a word holds, where it is accepted at all
  same_held : (r s : Record) → Holds a w r → decode_with a w ≡ Ok s → s ≡ r
  same_held r s h e =
      let t = accepted a w s e in
      let own : Some t.0 ≡ Some (kind_of r.body) =
      sym t.1.label ∙ ap a.kind (label_bits w ∙ sym h.label) ∙ a.found (kind_of r.body) in
      let kind : t.0 ≡ kind_of r.body = cc in
      t.2 ∙ ap (λ (k : Kind). record_of k w) kind
      ∙ (λ i. record { source = (source_bits w ∙ sym h.source) i; body = sym (only r.body w h.body) i })

pub demand2 : (a : Assignment) → Demand2 a
demand2 a = record {
  accepted = λ w h.
      let order = (word_order a w h).accepted in
      let rules = allowed a w in
      (λ s. rules.0 (order.0 s), λ x. order.1 (rules.1 x));
  held = λ w r h.
      let order = (word_order a w h).accepted in
      let rules = allowed a w in (
        λ e. (rules.0 (order.0 (r, e)), word_holds a w r e),
        λ x. let s = order.1 (rules.1 x.0) in s.1 ∙ ap Ok (same_held a w r s.0 x.1 s.1),
      );
  refused = λ w f h. (word_order a w h).refused f;
  word_back = λ w r h e. decode-encode a w r h e;
  record_back = λ r w e. encode-decode a r w e;
  legal = λ r. (
    λ l. (word_of a r, all_legal_lem a r ((legal_codes_test r).1 l.0) ((values_test r.body).1 l.1)),
    λ s. let u = written a r s.0 s.1 in
        ((legal_codes_test r).0 (both u.0), (values_test r.body).0 u.0.values),
  );
  code = λ r n. codes_broken a r (no (legal_codes_test r) n);
  value = λ r c n. values_broken a r ((legal_codes_test r).1 c) (no (values_test r.body) n);
  one_word = λ w v r hw hv p q. same_word (sym (decode-encode a w r hw p) ∙ decode-encode a v r hv q);
  one_record = λ r s w p q. same_record (sym (encode-decode a r w p).1 ∙ (encode-decode a s w q).1);
  shown = λ w r h e.
      let says = status_says r.body w (word_holds a w r e).body in
      through (reading_exactly r.body) (either (says Status.Ready) (says Status.Test));
  marked = λ w r h e. through (test_exactly r.body) (status_says r.body w (word_holds a w r e).body Status.Test);
}
