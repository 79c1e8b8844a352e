-- Which words carry a part, read off document 01's table and not from decoding, and which refusals the other words have.
-- Assumes nothing.
use Rattle.std.specs.Prelude.{ℕ, ◌≤◌, ◌≡◌, refl, Bool, true, false, cond, ◌↔◌, ◌⊎◌, eqb, Option, Some, None, Ok, Err}
use Rattle.std.proofs.Common.{sym, ap, ap₂, subst, ◌∙◌, inl, inr, eqb-true, eq-eqb, lit≤}
use Rattle.bits.specs.Fields.{bits}
use Rattle.bits.specs.Parity.{odd}
use Rattle.refusals.specs.Numbers.{number_of}
use Rattle.records.specs.declared.Kind.{Kind}
use Rattle.records.specs.declared.Kind.TheVariants.{VorAzimuth, VorFrequency, IlsCourse, IlsGlide, IlsFrequency, MlsFrequency, MlsAzimuthDeviation, MlsGlideDeviation, SelectedAzimuth, GreatestGlideAngle, SelectedGlideAngle, Part1, Part2, Part3, Part4}
use Rattle.refusals.specs.declared.Refusal.{Refusal}
use Rattle.refusals.specs.declared.Refusal.TheVariants.{Label, ZeroBit, Code}
use Rattle.labels.specs.Label.{label_of}
use Rattle.labels.specs.Assignment.{Assignment}
use Rattle.reassembly_parts.specs.declared.Part.{Part}
use Rattle.reassembly_parts.specs.declared.Part.TheVariants.{One, Two, Three, Four}
use Rattle.part_words.specs.Parts.{part_with, parity_broken}
use Rattle.part_words.specs.Bits.{first-content}
use Rattle.part_words.specs.Carries.{PartWord, Carries, tested, PartKind, and-true, bytes, agrees-tested, PartLookup, LabelRefused, found-refused, View, carried_only, refused-only, is_part1, is_part2, is_part3, is_part4, carries_part, refused}

pub part1 : PartKind Part1 11 0 (λ w. One (bits 9 10 w) (bits 14 29 w))
part1 = record {
  zeros_are = λ w. and-true _;
  code_is = λ w. refl;
  known_is = refl;
  part_is = λ w. ap (λ (c : ℕ). Ok (One (bits 9 10 w) c)) (bytes (bits 14 29 w) (bits 22 29 w) (bits 14 21 w) (first-content w));
}

pub part2 : PartKind Part2 11 1 (λ w. Two (bits 9 10 w) (bits 14 29 w))
part2 = record { zeros_are = λ w. and-true _; code_is = λ w. refl; known_is = refl; part_is = λ w. refl }

pub part3 : PartKind Part3 11 2 (λ w. Three (bits 9 10 w) (bits 14 29 w))
part3 = record { zeros_are = λ w. and-true _; code_is = λ w. refl; known_is = refl; part_is = λ w. refl }

pub part4 : PartKind Part4 12 3 (λ w. Four (bits 9 10 w) (bits 14 29 w) (eqb (bits 11 11 w) 1))
part4 = record { zeros_are = λ w. and-true _; code_is = λ w. refl; known_is = refl; part_is = λ w. refl }

module _ {k : Kind} {from code : ℕ} {p : ℕ → Part} (r : PartKind k from code p) (a : Assignment) (w : ℕ) where
  row_carried : PartWord (a.label k) from code w → part_with a w ≡ Ok (p w)
  row_carried h =
      (agrees-tested r a w) h.parity h.labelled
      ∙ ap₂ (λ (z t : Bool). cond z (cond t (Ok (p w)) (Err Code)) (Err ZeroBit))
      (eq-eqb (bits from 13 w) 0 h.zeros) (eq-eqb (bits 30 31 w) code h.coded)

lookups : (l : Option Kind) → PartLookup l ⊎ LabelRefused l
lookups None = inr refl
lookups (Some VorAzimuth) = inr refl
lookups (Some VorFrequency) = inr refl
lookups (Some IlsCourse) = inr refl
lookups (Some IlsGlide) = inr refl
lookups (Some IlsFrequency) = inr refl
lookups (Some MlsFrequency) = inr refl
lookups (Some MlsAzimuthDeviation) = inr refl
lookups (Some MlsGlideDeviation) = inr refl
lookups (Some SelectedAzimuth) = inr refl
lookups (Some GreatestGlideAngle) = inr refl
lookups (Some SelectedGlideAngle) = inr refl
lookups (Some Part1) = inl is_part1
lookups (Some Part2) = inl is_part2
lookups (Some Part3) = inl is_part3
lookups (Some Part4) = inl is_part4

module _ (a : Assignment) (w : ℕ) where
  -- A word of odd parity and another label is refused 2, whatever else is wrong with it.
  pub other_label : odd w ≡ true → (label_of w ≡ a.label Part1 → ⊥) → (label_of w ≡ a.label Part2 → ⊥) → (label_of w ≡ a.label Part3 → ⊥)
      → (label_of w ≡ a.label Part4 → ⊥) → part_with a w ≡ Err Label
  other_label o n₁ n₂ n₃ n₄ = by (a.kind (label_of w)) refl (lookups (a.kind (label_of w)))
    where
      by : (l : Option Kind) → a.kind (label_of w) ≡ l → PartLookup l ⊎ LabelRefused l → part_with a w ≡ Err Label
      by l e (inl is_part1) = absurd (n₁ (sym (a.only (label_of w) Part1 e)))
      by l e (inl is_part2) = absurd (n₂ (sym (a.only (label_of w) Part2 e)))
      by l e (inl is_part3) = absurd (n₃ (sym (a.only (label_of w) Part3 e)))
      by l e (inl is_part4) = absurd (n₄ (sym (a.only (label_of w) Part4 e)))
      by l e (inr q) = (found-refused a w) l o e q

  view_tested : (l from code : ℕ) (p : Part) → odd w ≡ true → label_of w ≡ l → (PartWord l from code w → Carries a p w) → (View a w) (tested from code w p)
  view_tested l from code p o e h = by (eqb (bits from 13 w) 0) refl (eqb (bits 30 31 w) code) refl
    where
      by : (z : Bool) → eqb (bits from 13 w) 0 ≡ z → (t : Bool) → eqb (bits 30 31 w) code ≡ t
          → (View a w) (cond z (cond t (Ok p) (Err Code)) (Err ZeroBit))
      by true ez true et =
          carries_part (h (record { parity = o; labelled = e; zeros = eqb-true (bits from 13 w) 0 ez; coded = eqb-true (bits 30 31 w) code et }))
      by true ez false et = refused (lit≤ tt)
      by false ez t et = refused (lit≤ tt)

  view_part : {k : Kind} {from code : ℕ} {p : ℕ → Part} → PartKind k from code p → odd w ≡ true → a.kind (label_of w) ≡ Some k
      → (PartWord (a.label k) from code w → Carries a (p w) w) → (View a w) (part_with a w)
  view_part {k} {from} {code} {p} r o e h =
      let l = sym (a.only (label_of w) k e) in
      subst (View a w) (sym (agrees-tested r a w o l)) (view_tested (a.label k) from code (p w) o l h)

  view_found : (l : Option Kind) → odd w ≡ true → a.kind (label_of w) ≡ l → PartLookup l ⊎ LabelRefused l → (View a w) (part_with a w)
  view_found l o e (inl is_part1) = view_part part1 o e λ h. (h, refl, refl)
  view_found l o e (inl is_part2) = view_part part2 o e λ h. (h, refl, refl)
  view_found l o e (inl is_part3) = view_part part3 o e λ h. (h, refl, refl)
  view_found l o e (inl is_part4) = view_part part4 o e λ h. (h, refl, refl, refl)
  view_found l o e (inr q) = subst (View a w) (sym ((found-refused a w) l o e q)) (refused (lit≤ tt))

  view : (View a w) (part_with a w)
  view = by (odd w) refl
    where
      by : (b : Bool) → odd w ≡ b → (View a w) (part_with a w)
      by true o = view_found (a.kind (label_of w)) o refl (lookups (a.kind (label_of w)))
      by false o = subst (View a w) (sym (parity_broken a w o)) (refused (lit≤ tt))

  carried_all : (p : Part) → Carries a p w → part_with a w ≡ Ok p
  carried_all (One s c) h = row_carried part1 a w h.0 ∙ λ i. Ok (One (h.1 i) (h.2 i))
  carried_all (Two s c) h = row_carried part2 a w h.0 ∙ λ i. Ok (Two (h.1 i) (h.2 i))
  carried_all (Three s c) h = row_carried part3 a w h.0 ∙ λ i. Ok (Three (h.1 i) (h.2 i))
  carried_all (Four s c m) h = row_carried part4 a w h.0 ∙ λ i. Ok (Four (h.1 i) (h.2 i) (h.3 i))

  -- A word carries a part just where the table allows it.
  pub carries : (p : Part) → (part_with a w ≡ Ok p) ↔ Carries a p w
  carries p = ((carried_only a w) view p, carried_all p)

  -- Only the refusals 1 to 4 arise.
  pub refusals : (f : Refusal) → part_with a w ≡ Err f → number_of f ≤ 4
  refusals f e = (refused-only a w) view f e
