-- An order of refusals, stated over a list of rules and not by nested tests: what is refused is what the first broken rule refuses, and what breaks none is accepted.
-- One law for every entry point: over any type F of what is refused with (a refusal, or one with its offset) and any type A of answers.
-- Assumes nothing.
use Rattle.std.specs.Prelude.{◌≡◌, refl, Bool, true, false, cond, List, ◌∷◌, ◌↔◌}
use Rattle.std.proofs.Common.{sym, ap, subst, inl, inr}
use Rattle.std.proofs.lemmas.Bool.{false≢true}
use Rattle.refusals.specs.Order.{Rule, asks, Answers, Follows}

module _ {F A : Type 0} (by : Answers F A) where
  -- a kept rule in front changes nothing
  pub kept-first : (rule : Rule F) (rules : List (Rule F)) (answer : A) → rule.kept → ((f : F) → rule.broken f → ⊥) → Follows by rules answer → Follows by (rule ∷ rules) answer
  kept-first rule rules answer k n h = record {
    refused = λ f. (λ e. inr (k, (h.refused f).0 e), elim [ inl b ↦ absurd (n f b) | inr b ↦ (h.refused f).1 b.1 ]);
    accepted = (λ p. (k, h.accepted.0 p), λ a. h.accepted.1 a.1);
  }

  -- a broken rule in front decides
  pub broken_first : (rule : Rule F) (rules : List (Rule F)) (f : F) → (rule.kept → ⊥) → rule.broken f → ((g : F) → rule.broken g → g ≡ f) → Follows by (rule ∷ rules) (by.refuse f)
  broken_first rule rules f n b only = record {
    refused = λ g. (λ e. inl (subst rule.broken (by.once f g e) b), elim [ inl c ↦ ap by.refuse (sym (only g c)) | inr c ↦ absurd (n c.0) ]);
    accepted = (λ p. absurd (by.apart f p), λ a. absurd (n a.0));
  }

  -- a rule with one refusal, kept or broken
  pub kept-one : (kept : Type 0) (refusal : F) (rules : List (Rule F)) (answer : A) → kept → Follows by rules answer → Follows by (asks kept refusal ∷ rules) answer
  kept-one kept refusal rules answer k h = kept-first (asks kept refusal) rules answer k (λ f b. b.0 k) h

  pub broken_one : (kept : Type 0) (refusal : F) (rules : List (Rule F)) → (kept → ⊥) → Follows by (asks kept refusal ∷ rules) (by.refuse refusal)
  broken_one kept refusal rules n = broken_first (asks kept refusal) rules refusal n (n, refl) (λ g b. b.1)

  -- a tested rule
  pub tested : (test : Bool) (kept : Type 0) (refusal : F) (rules : List (Rule F)) (answer : A) → (test ≡ true → kept) → (kept → test ≡ true)
      → (kept → Follows by rules answer) → Follows by (asks kept refusal ∷ rules) (cond test answer (by.refuse refusal))
  tested true kept refusal rules answer to from rest = kept-one kept refusal rules answer (to refl) (rest (to refl))
  tested false kept refusal rules answer to from rest = broken_one kept refusal rules (λ k. false≢true (from k))

  -- a rule in other words
  pub reworded : (K L : Type 0) (refusal : F) (rules : List (Rule F)) (answer : A) → K ↔ L → Follows by (asks K refusal ∷ rules) answer → Follows by (asks L refusal ∷ rules) answer
  reworded K L refusal rules answer e h = record {
    refused = λ f. (
      λ q. elim ((h.refused f).0 q) [ inl b ↦ inl (λ l. b.0 (e.1 l), b.1) | inr b ↦ inr (e.0 b.0, b.1) ],
      λ q. (h.refused f).1 (elim q [ inl b ↦ inl (λ k. b.0 (e.0 k), b.1) | inr b ↦ inr (e.1 b.0, b.1) ]),
    );
    accepted = (λ p. let a = h.accepted.0 p in (e.0 a.0, a.1), λ a. h.accepted.1 (e.1 a.0, a.1));
  }
