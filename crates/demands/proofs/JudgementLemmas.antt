-- Decoding follows the rules of a word, and they are all kept exactly by the words that are allowed.
-- Assumes nothing.
use Rattle.std.specs.Prelude.{◌≡◌, refl, Bool, true, cond, List, ◌∷◌, ◌↔◌, ℕ, ◌^◌, ◌<◌, Option, Some, None, Result, Ok, Err}
use Rattle.std.proofs.Common.{sym, ap, ◌∙◌, subst, arith}
use Rattle.std.proofs.Math.Path.{subst⁻¹}
use Rattle.bits.specs.Layout.{clear}
use Rattle.bits.specs.Laws.{clear_test}
use Rattle.bits.specs.Parity.{odd}
use Rattle.records.specs.Layouts.{word_layout}
use Rattle.records.specs.declared.Kind.{Kind}
use Rattle.refusals.specs.Order as order
use Rattle.refusals.specs.Order.{Rule, Follows, AllKept}
use Rattle.refusals.proofs.Order.{kept-one, broken_one, tested}
use Rattle.refusals.specs.Order.{no_rules}
use Rattle.refusals.specs.declared.Refusal.{Refusal}
use Rattle.labels.specs.Label.{label_of}
use Rattle.labels.specs.Assignment.{Assignment}
use Rattle.decode.specs.Rules.{rules}
use Rattle.decode.specs.Decode.{judgement, record_of, judged, decode_kind, decode_found, decode_with}
use Rattle.demands.specs.Table.{ZeroBits}
use Rattle.demands.proofs.TableLemmas.{zero_bits}
use Rattle.demands.specs.Allowed.{asks, Allowed}
use Rattle.demands.specs.Order.{OfItsKind, field_rules, word_rules, decoded}
use Rattle.demands.proofs.TestsLemmas as tests_proofs
use Rattle.demands.specs.TestsLemmas.{odd_test}
use Rattle.demands.specs.JudgementLemmas.{judged_test, one_kind}

module _ (a : Assignment) (w : ℕ) where
  -- what is asked of the kind of the word's label, and what holds of that kind
  of_its_kind : (k : Kind) → label_of w ≡ a.label k → (P : Kind → Type 0) → P k ↔ OfItsKind a w P
  of_its_kind k e P = (λ x j f. subst P ((one_kind a w) k j e f) x, λ x. x k e)

  module _ (k : Kind) (own : label_of w ≡ a.label k) where
    -- a rule of the fields: its test says what is asked of this kind
    field_follows : (P : Kind → Type 0) (rest : List (Rule Refusal)) (b : Bool) (v : Result Unit Refusal) (f : Refusal) → (b ≡ true) ↔ P k
        → (P k → Follows decoded rest (judged v (record_of k w))) → Follows decoded (order.asks (OfItsKind a w P) f ∷ rest) (judged (cond b v (Err f)) (record_of k w))
    field_follows P rest b v f test next =
        let its = of_its_kind k own P in
        subst⁻¹ (Follows decoded (order.asks (OfItsKind a w P) f ∷ rest)) (judged_test b v f (record_of k w))
        (tested decoded b (OfItsKind a w P) f rest (judged v (record_of k w)) (λ e. its.0 (test.0 e)) (λ x. test.1 (its.1 x)) (λ x. next (its.1 x)))

    fields_follow : Follows decoded (field_rules a w) (judged (judgement (rules k w)) (record_of k w))
    fields_follow =
        let t = tests_proofs.tested k w in
        field_follows (λ j. (asks j w).digits) _ (rules k w).digits _ Refusal.Digit t.digits
        (λ d. field_follows (λ j. (asks j w).codes) _ (rules k w).codes _ Refusal.Code t.codes
        (λ c. field_follows (λ j. (asks j w).value) _ (rules k w).value _ Refusal.Value (t.value d c)
        (λ v. field_follows (λ j. (asks j w).angle) _ (rules k w).angle _ Refusal.AngleParity t.angle
        (λ n. no_rules decoded (Ok (record_of k w)) (record_of k w, refl)))))

    kind_follows : Follows decoded (order.asks (OfItsKind a w (λ j. ZeroBits j w)) Refusal.ZeroBit ∷ field_rules a w) (decode_kind k w)
    kind_follows =
        let its = of_its_kind k own (λ (j : Kind). ZeroBits j w) in
        let test = clear_test (word_layout k) w in
        let same = zero_bits k w in
        tested decoded (clear (word_layout k) w) _ Refusal.ZeroBit (field_rules a w) _ (λ e. its.0 (same.0 (test.0 e))) (λ x. test.1 (same.1 (its.1 x))) (λ x. fields_follow)

  found_follows : (l : Option Kind) → a.kind (label_of w) ≡ l
      → Follows decoded (order.asks ((k : Kind) × (label_of w ≡ a.label k)) Refusal.Label ∷ order.asks (OfItsKind a w (λ k. ZeroBits k w)) Refusal.ZeroBit ∷ field_rules a w) (decode_found l w)
  found_follows (Some k) f =
      let own : label_of w ≡ a.label k = sym (a.only (label_of w) k f) in
      kept-one decoded _ Refusal.Label _ _ (k, own) (kind_follows k own)
  found_follows None f =
      broken_one decoded _ Refusal.Label _
      (λ s.
      let g : Some s.0 ≡ None = sym (a.found s.0) ∙ ap a.kind (sym s.1) ∙ f in
      let z : ◌≡◌ {A = ℕ} 0 1 = cc in
      omega arith)

  -- A word is refused with its first broken rule, and accepted when none is broken.
  pub word_order : w < 2 ^ 32 → Follows decoded (word_rules a w) (decode_with a w)
  word_order h =
      let test = odd_test w h in
      tested decoded (odd w) _ Refusal.Parity _ _ test.0 test.1 (λ p. found_follows (a.kind (label_of w)) refl)

  -- The words that keep every rule are the allowed ones.
  pub allowed : AllKept (word_rules a w) ↔ Allowed a w
  allowed = (
    λ r.
        let k = r.1.0.0 in
        let own = r.1.0.1 in
        record {
          parity = r.0;
          kind = k;
          label = own;
          zeros = r.1.1.0 k own;
          digits = r.1.1.1.0 k own;
          codes = r.1.1.1.1.0 k own;
          value = r.1.1.1.1.1.0 k own;
          angle = r.1.1.1.1.1.1.0 k own;
        },
    λ x.
        let its : (P : Kind → Type 0) → P x.kind → OfItsKind a w P = λ P. (of_its_kind x.kind x.label P).0 in
        (x.parity, ((x.kind, x.label), (its _ x.zeros, (its (λ j. (asks j w).digits) x.digits, (its (λ j. (asks j w).codes) x.codes, (its (λ j. (asks j w).value) x.value, (its (λ j. (asks j w).angle) x.angle, tt))))))),
  )
