-- Which words carry a part, read off document 01's table and not from decoding, and which refusals the other words have.
-- Assumes nothing.
use Rattle.std.specs.Prelude.{ℕ, ◌+◌, ◌*◌, ◌≤◌, ◌≡◌, refl, Bool, true, false, cond, ◌&&◌, eqb, Option, Some, None, Result, Ok, Err}
use Rattle.std.proofs.Common.{sym, ap, ap₂, subst, ◌∙◌, arith}
use Rattle.bits.specs.Fields.{bits}
use Rattle.bits.specs.Layout.{clear}
use Rattle.bits.specs.Parity.{odd}
use Rattle.records.specs.Layouts.{word_layout}
use Rattle.refusals.specs.Numbers.{number_of}
use Rattle.records.specs.declared.Kind.{Kind}
use Rattle.records.specs.declared.Kind.TheVariants.{Part1, Part2, Part3, Part4}
use Rattle.records.specs.declared.Record.{Record}
use Rattle.refusals.specs.declared.Refusal.{Refusal}
use Rattle.refusals.specs.declared.Refusal.TheVariants.{Parity, Label, ZeroBit, Code}
use Rattle.labels.specs.Label.{label_of}
use Rattle.labels.specs.Assignment.{Assignment}
use Rattle.decode.specs.Rules.{rules, body_of}
use Rattle.decode.specs.Decode.{judgement, record_of, judged, decode_kind, decode_found, decode_as, decode_with, parity_kept as decode-odd}
use Rattle.reassembly_parts.specs.declared.Part.{Part}
use Rattle.reassembly_parts.specs.declared.Part.TheVariants.{One, Two, Three, Four}
use Rattle.part_words.specs.Parts.{only_parts, part_of, part_read, part_with}

-- A word that a row of the table allows: odd parity, the row's label, zeros from the bit `from` to bit 13, and the row's code in bits 31, 30.
pub record PartWord (label from code w : ℕ) : Type 0 where
  pub parity : odd w ≡ true
  pub labelled : label_of w ≡ label
  pub zeros : bits from 13 w ≡ 0
  pub coded : bits 30 31 w ≡ code

module _ (a : Assignment) where
  -- The word w carries this part: it is a word of the part's row, with the part's source (bits 9, 10), content (bits 14 to 29) and good parity (bit 11).
  abbrev pub Carries : Part → ℕ → Type 0
  Carries (One s c) w = PartWord (a.label Part1) 11 0 w × (bits 9 10 w ≡ s) × (bits 14 29 w ≡ c)
  Carries (Two s c) w = PartWord (a.label Part2) 11 1 w × (bits 9 10 w ≡ s) × (bits 14 29 w ≡ c)
  Carries (Three s c) w = PartWord (a.label Part3) 11 2 w × (bits 9 10 w ≡ s) × (bits 14 29 w ≡ c)
  Carries (Four s c m) w = PartWord (a.label Part4) 12 3 w × (bits 9 10 w ≡ s) × (bits 14 29 w ≡ c) × (eqb (bits 11 11 w) 1 ≡ m)

-- the tests of a part's word after parity and label: its zero bits (3), then bits 31, 30 (4)
abbrev pub tested : (from code w : ℕ) → Part → Result Part Refusal
tested from code w p = cond (eqb (bits from 13 w) 0) (cond (eqb (bits 30 31 w) code) (Ok p) (Err Code)) (Err ZeroBit)

-- the part in the record's place, unless decoding refuses the word
abbrev pub unless_refused : Result Record Refusal → Part → Result Part Refusal
unless_refused (Ok r) p = Ok p
unless_refused (Err f) p = Err f

-- what the definitions say of a kind whose words are parts
pub record PartKind (k : Kind) (from code : ℕ) (p : ℕ → Part) : Type 0 where
  pub zeros_are : (w : ℕ) → clear (word_layout k) w ≡ eqb (bits from 13 w) 0
  pub code_is : (w : ℕ) → judgement (rules k w) ≡ cond (eqb (bits 30 31 w) code) (Ok tt) (Err Code)
  pub known_is : only_parts (Some k) ≡ Some k
  pub part_is : (w : ℕ) → part_of (bits 9 10 w) (body_of k w) ≡ Ok (p w)

pub and-true : (b : Bool) → (b && true) ≡ b
and-true true = refl
and-true false = refl

pub bytes : (n a b : ℕ) → n ≡ a * 256 + b → b + 256 * a ≡ n
bytes n a b e = omega arith

coded-tested : (t : Bool) (r : Record) (q : Part)
    → unless_refused (judged (cond t (Ok tt) (Err Code)) r) q ≡ cond t (Ok q) (Err Code)
coded-tested true r q = refl
coded-tested false r q = refl

clear-tested : (t : Bool) (d : Result Record Refusal) (q : Part)
    → unless_refused (cond t d (Err ZeroBit)) q ≡ cond t (unless_refused d q) (Err ZeroBit)
clear-tested true d q = refl
clear-tested false d q = refl

module _ {k : Kind} {from code : ℕ} {p : ℕ → Part} (r : PartKind k from code p) (a : Assignment) (w : ℕ) where
  kind_tested : unless_refused (decode_kind k w) (p w) ≡ tested from code w (p w)
  kind_tested =
      clear-tested (clear (word_layout k) w) _ (p w)
      ∙ ap₂ (λ (z : Bool) (x : Result Part Refusal). cond z x (Err ZeroBit)) (r.zeros_are w)
      (ap (λ (v : Result Unit Refusal). unless_refused (judged v (record_of k w)) (p w)) (r.code_is w) ∙ coded-tested (eqb (bits 30 31 w) code) (record_of k w) (p w))

  record_carried : (o z : Bool) (j : Result Unit Refusal) → (d : Result Record Refusal) → d ≡ cond o (cond z (judged j (record_of k w)) (Err ZeroBit)) (Err Parity)
      → part_read d ≡ unless_refused d (p w)
  record_carried true true (Ok tt) d e = ap part_read e ∙ r.part_is w ∙ ap (λ (x : Result Record Refusal). unless_refused x (p w)) (sym e)
  record_carried true true (Err f) d e = ap part_read e ∙ ap (λ (x : Result Record Refusal). unless_refused x (p w)) (sym e)
  record_carried true false j d e = ap part_read e ∙ ap (λ (x : Result Record Refusal). unless_refused x (p w)) (sym e)
  record_carried false z j d e = ap part_read e ∙ ap (λ (x : Result Record Refusal). unless_refused x (p w)) (sym e)

  -- A word of a part's label is what decoding says of it, with the part in its record's place.
  pub agrees : label_of w ≡ a.label k → part_with a w ≡ unless_refused (decode_with a w) (p w)
  agrees l =
      let found : a.kind (label_of w) ≡ Some k = ap a.kind l ∙ a.found k in
      ap (λ (x : Option Kind). part_read (decode_as x w)) (ap only_parts found ∙ r.known_is)
      ∙ record_carried (odd w) (clear (word_layout k) w) (judgement (rules k w)) (decode_as (Some k) w) refl
      ∙ ap (λ (x : Option Kind). unless_refused (decode_as x w) (p w)) (sym found)

  -- One of odd parity is refused 3 for a zero bit that is one, else 4 for its bits 31, 30, and else carries the part.
  pub agrees-tested : odd w ≡ true → label_of w ≡ a.label k → part_with a w ≡ tested from code w (p w)
  agrees-tested o l =
      agrees l
      ∙ ap (λ (d : Result Record Refusal). unless_refused d (p w)) (decode-odd (a.kind (label_of w)) w o ∙ ap (λ (x : Option Kind). decode_found x w) (ap a.kind l ∙ a.found k))
      ∙ kind_tested

-- a label either stands for a part, or refuses every word that has it
pub data PartLookup : Option Kind → Type 0 where
  is_part1 : PartLookup (Some Part1)
  is_part2 : PartLookup (Some Part2)
  is_part3 : PartLookup (Some Part3)
  is_part4 : PartLookup (Some Part4)

abbrev pub LabelRefused : Option Kind → Type 0
LabelRefused l = only_parts l ≡ None

module _ (a : Assignment) (w : ℕ) where
  pub found-refused : (l : Option Kind) → odd w ≡ true → a.kind (label_of w) ≡ l → LabelRefused l → part_with a w ≡ Err Label
  found-refused l o e q = ap (λ (x : Option Kind). part_read (decode_as x w)) (ap only_parts e ∙ q) ∙ ap part_read (decode-odd None w o)

  -- either a word carries a part, or it is refused 1 to 4
  pub data View : Result Part Refusal → Type 0 where
    carries_part : {p : Part} → Carries a p w → View (Ok p)
    refused : {f : Refusal} → number_of f ≤ 4 → View (Err f)

  pub carried_only : {x : Result Part Refusal} → View x → (p : Part) → x ≡ Ok p → Carries a p w
  carried_only (carries_part {p = q} h) p e = let i : q ≡ p = cc in subst (λ (x : Part). Carries a x w) i h
  carried_only (refused h) p e = let z : ◌≡◌ {A = ℕ} 0 1 = cc in absurd (omega arith)

  pub refused-only : {x : Result Part Refusal} → View x → (f : Refusal) → x ≡ Err f → number_of f ≤ 4
  refused-only (carries_part h) f e = let z : ◌≡◌ {A = ℕ} 0 1 = cc in absurd (omega arith)
  refused-only (refused {f = g} h) f e = let i : g ≡ f = cc in subst (λ (x : Refusal). number_of x ≤ 4) i h
