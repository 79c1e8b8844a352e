-- What is told of a figure and a word: which refusal, by the one order, and which reason.
-- Assumes nothing.
use Rattle.std.specs.Prelude.{◌≡◌, refl, Bool, true, false, [], ◌∷◌, ◌↔◌, ℕ, T, ℤ, Option, Some, None, Result, Ok, Err}
use Rattle.std.proofs.Common.{sym, ap, subst, ◌∙◌}
use Rattle.records.specs.declared.Record.{Record}
use Rattle.refusals.specs.Order.{Follows, AllKept, asks}
use Rattle.refusals.proofs.Order.{kept-one, broken_one, kept-first, broken_first}
use Rattle.refusals.specs.Order.{no_rules}
use Rattle.refusals.specs.declared.Refusal.{Refusal}
use Rattle.labels.specs.Assignment.{Assignment}
use Rattle.decode.specs.Decode.{decode_with}
use Rattle.quantities.specs.declared.Quantity.{Quantity}
use Rattle.measurements.specs.Measurements.{measurement_of}
use Rattle.readings.specs.Readings.{has_reading, reading_of}
use Rattle.agreements.specs.Agreement.{agrees_with, decoded_measurement, holds_nearest}
use Rattle.agreements.specs.Agreeing.{agrees-tested}
use Rattle.signed_numbers.specs.Signed.{Fits}
use Rattle.reasons.specs.Reasons.{Told}
use Rattle.reasons.specs.Scaled.{reason_of}
use Rattle.reasons.proofs.Theorems.{told_exactly}
use Rattle.reasons.specs.declared.Reason.{Reason}
use Rattle.explanations.specs.Explanations.{held_under, held_in, count_agrees, explained_by, explained_with}
use Rattle.explanations.specs.Statements.{Measured, Readable, own_rule, word_rules, explaining}
use Rattle.explanations.specs.Theorems.{clash, because_once, measured, unmeasured}

module _ (a : Assignment) (w : ℕ) where
  -- The refusals, by the one order.
  pub follows : (figure : ℤ) → Follows explaining (word_rules a w) (explained_with a w figure)
  follows figure = by_word (decode_with a w) refl
    where
      by_reading : (r : Record) → decode_with a w ≡ Ok r → (q : Quantity) (c : ℤ) (b : Bool) → has_reading (reading_of r.body) ≡ b
          → Follows explaining (asks (Readable a w) Refusal.Reach ∷ []) (explained_by (held_under b (Some (q, c))) figure)
      by_reading r e q c true h =
          let answer = Ok (reason_of (count_agrees q c) figure) in
          kept-one explaining (Readable a w) Refusal.Reach [] answer (r, e, subst T (sym h) tt) (no_rules explaining answer (reason_of (count_agrees q c) figure, refl))
      by_reading r e q c false h =
          broken_one explaining (Readable a w) Refusal.Reach []
          (λ k. let same : k.0 ≡ r = cc in subst T (ap (λ (x : Record). has_reading (reading_of x.body)) same ∙ h) k.2)

      by_measurement : (r : Record) → decode_with a w ≡ Ok r → (m : Option (Quantity × ℤ)) → measurement_of r.body ≡ m
          → Follows explaining (asks (Measured a w) Refusal.Label ∷ asks (Readable a w) Refusal.Reach ∷ []) (explained_by (held_under (has_reading (reading_of r.body)) m) figure)
      by_measurement r e (Some (q, c)) k =
          kept-one explaining (Measured a w) Refusal.Label (asks (Readable a w) Refusal.Reach ∷ []) (explained_by (held_under (has_reading (reading_of r.body)) (Some (q, c))) figure) ((measured a w) r e k)
          (by_reading r e q c (has_reading (reading_of r.body)) refl)
      by_measurement r e None k = broken_one explaining (Measured a w) Refusal.Label (asks (Readable a w) Refusal.Reach ∷ []) ((unmeasured a w) r e k)

      by_word : (d : Result Record Refusal) → decode_with a w ≡ d → Follows explaining (word_rules a w) (explained_by (held_in d) figure)
      by_word (Ok r) e = kept-first explaining (own_rule a w) (asks (Measured a w) Refusal.Label ∷ asks (Readable a w) Refusal.Reach ∷ []) (explained_by (held_in (Ok r)) figure) (r, e) (λ f b. clash (cc)) (by_measurement r e (measurement_of r.body) refl)
      by_word (Err f) e = broken_first explaining (own_rule a w) (asks (Measured a w) Refusal.Label ∷ asks (Readable a w) Refusal.Reach ∷ []) f (λ k. clash (cc)) e (λ g b. cc)

  -- the test of a held count is agreement with the word
  same_test : (r : Record) → decode_with a w ≡ Ok r → {q : Quantity} {c : ℤ} → measurement_of r.body ≡ Some (q, c) → agrees_with a w ≡ count_agrees q c
  same_test r e {q} {c} m = λ o figure. (agrees-tested a figure w ∙ ap (λ (x : Option (Quantity × ℤ)). holds_nearest x figure) (ap decoded_measurement e ∙ m)) o

  -- the reason is the one that is found by agreement with the word
  found : (figure : ℤ) (r : Reason) → explained_with a w figure ≡ Ok r → reason_of (agrees_with a w) figure ≡ r
  found figure reason = by_word (decode_with a w) refl
    where
      by_held : (r : Record) → decode_with a w ≡ Ok r → (b : Bool) (m : Option (Quantity × ℤ)) → measurement_of r.body ≡ m
          → explained_by (held_under b m) figure ≡ Ok reason → reason_of (agrees_with a w) figure ≡ reason
      by_held r e true (Some (q, c)) m k = ap (λ (test : ℤ → Bool). reason_of test figure) (same_test r e m) ∙ because_once (reason_of (count_agrees q c) figure) reason k
      by_held r e false (Some (q, c)) m k = clash (cc)
      by_held r e b None m k = clash (cc)

      by_word : (d : Result Record Refusal) → decode_with a w ≡ d → explained_by (held_in d) figure ≡ Ok reason → reason_of (agrees_with a w) figure ≡ reason
      by_word (Ok r) e k = by_held r e (has_reading (reading_of r.body)) (measurement_of r.body) refl k
      by_word (Err f) e k = clash (cc)

  -- A reason is told exactly where none of these rules is broken, and it is the first that holds of the word and the figure.
  pub because_exactly : (figure : ℤ) → Fits figure → (r : Reason)
      → (explained_with a w figure ≡ Ok r) ↔ (AllKept (word_rules a w) × Told (agrees_with a w) figure r)
  because_exactly figure fits r = (
    λ e. ((follows figure).accepted.0 (r, e), (told_exactly (agrees_with a w) figure fits r).0 (found figure r e)),
    λ h. let s = (follows figure).accepted.1 h.0 in
        s.1 ∙ ap Ok (sym (found figure s.0 s.1) ∙ (told_exactly (agrees_with a w) figure fits r).1 h.1),
  )
