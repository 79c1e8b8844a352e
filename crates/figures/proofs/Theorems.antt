-- Demand 3 is met.
-- Assumes nothing.
use Rattle.std.specs.Prelude.{◌≡◌, refl, ◌⊎◌, ◌↔◌, ℕ, ◌≤◌, ℤ, Option, Some, None, Ok, Err, Result}
use Rattle.std.proofs.Common.{sym, ap, subst, ◌∙◌, inl, inr, arith}
use Rattle.refusals.specs.declared.Refusal.{Refusal}
use Rattle.labels.specs.Assignment.{Assignment}
use Rattle.labels.proofs.Assignment.{document01}
use Rattle.encode.specs.Encode.{word_as}
use Rattle.quantities.specs.Mls.{IsMls, BeyondMls}
use Rattle.quantities.proofs.Mls.{mls-reach}
use Rattle.quantities.specs.Scale.{scale_of}
use Rattle.quantities.specs.Nearest.{nearest_count, millionths_of}
use Rattle.quantities.specs.Statements.{LegalCount, Beyond, Coded}
use Rattle.quantities.specs.Theorems as Quantities
use Rattle.quantities.proofs.Theorems as QuantitiesProofs
use Rattle.quantities.specs.declared.Quantity.{Quantity}
use Rattle.figures.specs.Coding.{label_for, ready_record, coded_nearest, coded_with, coded_of}
use Rattle.figures.specs.Demand.{count_bits, ReadyWord, Demand3}
use Rattle.figures.specs.Words.{ready_count_lem, ready_word, coded_nearest_lem}

module _ (a : Assignment) where
  refused-reach : (q : Quantity) (label source : ℕ) (n : Option ℤ) → (coded_nearest q label source n ≡ Err Refusal.Reach) ↔ (n ≡ None)
  refused-reach q label source (Some c) =
      (λ e. absurd (let z : ◌≡◌ {A = ℕ} 0 1 = cc in omega arith), λ e. absurd (let z : ◌≡◌ {A = ℕ} 0 1 = cc in omega arith))
  refused-reach q label source None = (λ e. refl, λ e. refl)

  out_of-reach : (q : Quantity) (source : ℕ) → source ≤ 3 → (figure : ℤ) → (coded_with a (label_for a q) source figure ≡ Err Refusal.Reach) ↔ (nearest_count q figure ≡ None)
  out_of-reach q source s figure = (
    λ e. (refused-reach q (label_for a q) source (nearest_count q figure)).0 (sym (coded_nearest_lem a q source figure s) ∙ e),
    λ e. coded_nearest_lem a q source figure s ∙ (refused-reach q (label_for a q) source (nearest_count q figure)).1 e,
  )

  -- a figure is refused 8 exactly when it is out of reach
  refused : (q : Quantity) (source : ℕ) → source ≤ 3 → (figure : ℤ) → (coded_with a (label_for a q) source figure ≡ Err Refusal.Reach) ↔ Beyond q figure
  refused q source s figure = (
    λ e. (QuantitiesProofs.refused q figure).0 ((out_of-reach q source s figure).0 e),
    λ h. (out_of-reach q source s figure).1 ((QuantitiesProofs.refused q figure).1 h),
  )

  beyond_mls : (q : Quantity) → IsMls q → (source : ℕ) → source ≤ 3 → (figure : ℤ) → (coded_with a (label_for a q) source figure ≡ Err Refusal.Reach) ↔ BeyondMls figure
  beyond_mls q m source s figure = (
    λ e. (mls-reach q m figure).0 ((out_of-reach q source s figure).0 e),
    λ h. (out_of-reach q source s figure).1 ((mls-reach q m figure).1 h),
  )

  -- under a legal source the nearest count is coded
  given : (q : Quantity) (source : ℕ) → source ≤ 3 → (figure c : ℤ) → nearest_count q figure ≡ Some c
      → (w : ℕ) × (coded_with a (label_for a q) source figure ≡ Ok w) × ReadyWord a q source w × (count_bits q w ≡ c)
  given q source s figure c e =
      let l : LegalCount (scale_of q) c = (QuantitiesProofs.coded q figure c e).legal in (
        word_as (label_for a q) (ready_record q source c),
        coded_nearest_lem a q source figure s ∙ ap (coded_nearest q (label_for a q) source) e,
        ready_word a q source c s l,
        ready_count_lem a q source c s l,
      )

  answered : (q : Quantity) (source : ℕ) → source ≤ 3 → (figure : ℤ)
      → (coded_with a (label_for a q) source figure ≡ Err Refusal.Reach)
      ⊎ ((w : ℕ) × (coded_with a (label_for a q) source figure ≡ Ok w) × ReadyWord a q source w)
  answered q source s figure = go (nearest_count q figure) refl
    where
      go : (n : Option ℤ) → nearest_count q figure ≡ n
          → (coded_with a (label_for a q) source figure ≡ Err Refusal.Reach)
          ⊎ ((w : ℕ) × (coded_with a (label_for a q) source figure ≡ Ok w) × ReadyWord a q source w)
      go (Some c) e = let g = given q source s figure c e in inr (g.0, g.1, g.2)
      go None e = inl (coded_nearest_lem a q source figure s ∙ ap (coded_nearest q (label_for a q) source) e)

  -- and a word that coding gives is that of the nearest count, which its count bits hold
  pub word-given : (q : Quantity) (source : ℕ) → source ≤ 3 → (figure : ℤ) (w : ℕ) → coded_with a (label_for a q) source figure ≡ Ok w
      → ReadyWord a q source w × (nearest_count q figure ≡ Some (count_bits q w))
  word-given q source s figure w e = go (nearest_count q figure) refl
    where
      go : (n : Option ℤ) → nearest_count q figure ≡ n → ReadyWord a q source w × (n ≡ Some (count_bits q w))
      go (Some c) n =
          let g = given q source s figure c n in
          let same : ◌≡◌ {A = Result ℕ Refusal} (Ok g.0) (Ok w) = sym g.1 ∙ e in
          let word : g.0 ≡ w = cc in
          (subst (ReadyWord a q source) word g.2, ap Some (sym g.3 ∙ ap (count_bits q) word))
      go None n =
          let clash : Err Refusal.Reach ≡ Ok w = sym (coded_nearest_lem a q source figure s ∙ ap (coded_nearest q (label_for a q) source) n) ∙ e in
          absurd (let z : ◌≡◌ {A = ℕ} 0 1 = cc in omega arith)

  nearest : (q : Quantity) (source : ℕ) → source ≤ 3 → (figure : ℤ) (w : ℕ) → coded_with a (label_for a q) source figure ≡ Ok w
      → Coded q figure (count_bits q w)
  nearest q source s figure w e = QuantitiesProofs.coded q figure (count_bits q w) (word-given q source s figure w e).1

  -- demand 3, under every assignment of labels
  pub demand3 : Demand3 a (coded_with a) millionths_of
  demand3 =
      record {
        five = refl;
        bit_28_azimuth = refl;
        bit_28_course = refl;
        bit_28_glide = refl;
        bit_28_mls = λ q. elim [ inl e ↦ rw e refl | inr e ↦ rw e refl ];
        bit_14_mls = λ q. elim [ inl e ↦ rw e refl | inr e ↦ rw e refl ];
        deviation_refused = λ q line source s figure. rw line at (refused q source s figure);
        mls-refused = beyond_mls;
        azimuth_refused = λ source s figure. refused Quantity.Azimuth source s figure;
        rest_coded = answered;
        legal = λ q source s figure w e. (nearest q source s figure w e).legal;
        none_nearer = λ q source s figure w e. (nearest q source s figure w e).nearest;
        even_if_tied = λ q source s figure w e. (nearest q source s figure w e).even;
        untied = λ q source s figure w e. QuantitiesProofs.untied q figure (count_bits q w) (word-given q source s figure w e).1;
        distance = Quantities.away;
        one-distance = Quantities.away_once;
        printed = Quantities.printed;
        codes_back = λ q c l source s. let g = given q source s (millionths_of q c) c (QuantitiesProofs.codes_back q c l) in (g.0, g.1, g.3);
      }

-- and so under document 01's
pub demand3_of : Demand3 document01 coded_of millionths_of
demand3_of = demand3 document01
