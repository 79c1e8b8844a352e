-- A figure agrees with a word exactly when the word's count is the one nearest to it: decoding gives back the count that was coded.
-- Assumes nothing.
use Rattle.std.specs.Prelude.{◌≡◌, refl, ◌↔◌, true, false, ℕ, ◌≤◌, ℤ, pos, negsuc, Option, Some, None, Result, Ok, Err}
use Rattle.std.proofs.Common.{sym, ap, ◌∙◌, arith, eqb-true, eq-eqb}
use Rattle.bits.specs.Fields.{bits}
use Rattle.records.specs.All.{agree}
use Rattle.records.specs.declared.Kind.{Kind}
use Rattle.records.specs.declared.Record.{Record}
use Rattle.labels.specs.Assignment.{Assignment}
use Rattle.labels.specs.Label.{label_of}
use Rattle.refusals.specs.declared.Refusal.{Refusal}
use Rattle.decode.specs.Rules.{body_of}
use Rattle.decode.specs.Decode.{decode_with}
use Rattle.roundtrip.specs.Reading.{accepted}
use Rattle.quantities.specs.Nearest.{nearest_count}
use Rattle.quantities.proofs.Theorems.{coded}
use Rattle.quantities.specs.declared.Quantity.{Quantity}
use Rattle.quantities.specs.declared.Quantity.TheVariants.{Azimuth, Course, Glide, MlsAzimuth, MlsGlide}
use Rattle.figures.specs.Coding.{quantity_of, label_for, quantity_at, quantity_found, ready_body, coded_nearest, coded_under, coded_measured, coded_with}
use Rattle.figures.specs.Demand.{count_bits}
use Rattle.figures.specs.Words.{label_of_quantity, ready_decoded, legal_source}
use Rattle.figures.proofs.Theorems.{word-given}
use Rattle.measurements.specs.Measurements.{measurement_of}
use Rattle.agreements.specs.Agreement.{decoded_measurement, word_measurement, coded_measurement, equal, same_count, agrees_with, is_nearest, holds_nearest}

-- ---- the test of two signed numbers

never : false ≡ true → ⊥
never e = let z : ◌≡◌ {A = ℕ} 0 1 = cc in omega arith

pub equal-true : (x y : ℤ) → equal x y ≡ true → x ≡ y
equal-true (pos m) (pos n) e = ap pos (eqb-true m n e)
equal-true (pos m) (negsuc n) e = absurd (never e)
equal-true (negsuc m) (pos n) e = absurd (never e)
equal-true (negsuc m) (negsuc n) e = ap negsuc (eqb-true m n e)

pub equal_same : (x : ℤ) → equal x x ≡ true
equal_same (pos n) = eq-eqb n n refl
equal_same (negsuc n) = eq-eqb n n refl

-- ---- what a word holds

-- the quantity of a word's kind, and what the word's count bits hold
abbrev pub held : Option Quantity → ℕ → Option (Quantity × ℤ)
held (Some q) w = Some (q, count_bits q w)
held None w = None

measurement_held : (k : Kind) (w : ℕ) → measurement_of (body_of k w) ≡ held (quantity_of k) w
measurement_held k w = agree (λ k. measurement_of (body_of k w)) (λ k. held (quantity_of k) w) refl k

-- an accepted word holds the count of its label's quantity
pub accepted-held : (a : Assignment) (w : ℕ) (r : Record) → decode_with a w ≡ Ok r → measurement_of r.body ≡ held (quantity_at a (label_of w)) w
accepted-held a w r e =
    let x = accepted a w r e in
    ap (λ (y : Record). measurement_of y.body) x.2
    ∙ measurement_held x.0 w
    ∙ ap (λ (l : Option Kind). held (quantity_found l) w) (sym x.1.label)

ready_measurement : (q : Quantity) (c : ℤ) → measurement_of (ready_body q c) ≡ Some (q, c)
ready_measurement Azimuth c = refl
ready_measurement Course c = refl
ready_measurement Glide c = refl
ready_measurement MlsAzimuth c = refl
ready_measurement MlsGlide c = refl

-- ---- coding and decoding again

module _ (a : Assignment) (figure : ℤ) where
  -- what was coded measures the nearest count
  by_nearest : (q : Quantity) (source : ℕ) (c : ℤ) → source ≤ 3 → (n : Option ℤ) → nearest_count q figure ≡ n
      → same_count (Some (q, c)) (coded_measurement a (coded_nearest q (label_for a q) source n)) ≡ is_nearest n c
  by_nearest q source c s (Some d) e =
      ap (λ (m : Result Record Refusal). same_count (Some (q, c)) (decoded_measurement m)) (ready_decoded a q source d s (coded q figure d e).legal).1
      ∙ ap (same_count (Some (q, c))) (ready_measurement q d)
  by_nearest q source c s None e = refl

  by_quantity : (w : ℕ) (m : Option Quantity) → quantity_at a (label_of w) ≡ m
      → same_count (held m w) (coded_measurement a (coded_measured m (label_of w) (bits 9 10 w) figure)) ≡ holds_nearest (held m w) figure
  by_quantity w (Some q) e =
      let s : bits 9 10 w ≤ 3 = omega arith in
      let label : label_of w ≡ label_for a q = sym (label_of_quantity a (label_of w) q e) in
      ap (λ (x : Result ℕ Refusal). same_count (held (Some q) w) (coded_measurement a x))
      (ap (λ (l : ℕ). coded_under q l (bits 9 10 w) figure) label ∙ legal_source q (label_for a q) (bits 9 10 w) figure s)
      ∙ by_nearest q (bits 9 10 w) (count_bits q w) s (nearest_count q figure) refl
  by_quantity w None e = refl

  -- the definition is what the code tests
  pub agrees-tested : (w : ℕ) → agrees_with a w figure ≡ holds_nearest (word_measurement a w) figure
  agrees-tested w = go (decode_with a w) refl
    where
      coding : Option (Quantity × ℤ)
      coding = coded_measurement a (coded_with a (label_of w) (bits 9 10 w) figure)

      go : (d : Result Record Refusal) → decode_with a w ≡ d → same_count (word_measurement a w) coding ≡ holds_nearest (word_measurement a w) figure
      go (Ok r) e =
          let m : word_measurement a w ≡ held (quantity_at a (label_of w)) w = ap decoded_measurement e ∙ accepted-held a w r e in
          ap (λ (u : Option (Quantity × ℤ)). same_count u coding) m
          ∙ by_quantity w (quantity_at a (label_of w)) refl
          ∙ ap (λ (u : Option (Quantity × ℤ)). holds_nearest u figure) (sym m)
      go (Err f) e =
          ap (λ (u : Option (Quantity × ℤ)). same_count u coding) (ap decoded_measurement e)
          ∙ ap (λ (u : Option (Quantity × ℤ)). holds_nearest u figure) (sym (ap decoded_measurement e))

  -- a figure agrees with a word exactly when the word holds a count, and that is the nearest to the figure
  pub agrees_exactly : (w : ℕ) → (agrees_with a w figure ≡ true)
      ↔ ((q : Quantity) × (c : ℤ) × (word_measurement a w ≡ Some (q, c)) × (nearest_count q figure ≡ Some c))
  agrees_exactly w = (λ e. there (word_measurement a w) refl (sym (agrees-tested w) ∙ e), λ h. agrees-tested w ∙ here h.0 h.1 h.2 h.3)
    where
      nearest_is : (n : Option ℤ) (c : ℤ) → is_nearest n c ≡ true → n ≡ Some c
      nearest_is (Some d) c e = ap Some (sym (equal-true c d e))
      nearest_is None c e = absurd (never e)

      there : (m : Option (Quantity × ℤ)) → word_measurement a w ≡ m → holds_nearest m figure ≡ true
          → (q : Quantity) × (c : ℤ) × (word_measurement a w ≡ Some (q, c)) × (nearest_count q figure ≡ Some c)
      there (Some (q, c)) e t = (q, c, e, nearest_is (nearest_count q figure) c t)
      there None e t = absurd (never t)

      here : (q : Quantity) (c : ℤ) → word_measurement a w ≡ Some (q, c) → nearest_count q figure ≡ Some c → holds_nearest (word_measurement a w) figure ≡ true
      here q c e n =
          ap (λ (u : Option (Quantity × ℤ)). holds_nearest u figure) e ∙ ap (λ (x : Option ℤ). is_nearest x c) n ∙ equal_same c

  -- so a figure agrees with the word that it is coded to
  pub coded-agrees : (q : Quantity) (source : ℕ) → source ≤ 3 → (w : ℕ) → coded_with a (label_for a q) source figure ≡ Ok w
      → agrees_with a w figure ≡ true
  coded-agrees q source s w e =
      let g = word-given a q source s figure w e in
      (agrees_exactly w).1 (q, count_bits q w, ap decoded_measurement g.0.accepted ∙ ready_measurement q (count_bits q w), g.1)
