-- Why each entry point follows its rules.
-- Assumes nothing.
use Rattle.std.specs.Prelude.{◌≡◌, refl, Bool, true, false, cond, ◌⊎◌, ◌↔◌, ◌≢◌, ℕ, zero, suc, ◌+◌, ◌≤◌, ◌<◌, eqb, leb, ltb, ℤ, length, Option, Some, None, Result, Ok, Err}
use Rattle.std.proofs.Common.{sym, ap, subst, ◌∙◌, inl, inr, arith, eqb-true, eq-eqb, leb-true, le-leb, ltb-true, ltb-false}
use Rattle.std.proofs.Math.Path.{subst⁻¹}
use mathlib.Core.List.{List, [], ◌∷◌}
use Rattle.std.proofs.lemmas.Bool.{eqb-false}
use Rattle.bits.specs.Fields.{bits}
use Rattle.bits.specs.Parity.{odd}
use Rattle.refusals.specs.Order.{Rule, asks, Follows}
use Rattle.refusals.proofs.Order.{kept-first, broken_first, kept-one, broken_one, tested}
use Rattle.refusals.specs.Order.{no_rules}
use Rattle.refusals.specs.declared.Refusal.{Refusal}
use Rattle.records.specs.declared.Kind.{Kind}
use Rattle.labels.specs.Label.{label_of}
use Rattle.labels.proofs.Assignment.{document01}
use Rattle.quantities.specs.Nearest.{nearest_count}
use Rattle.quantities.specs.Statements.{Beyond}
use Rattle.quantities.proofs.Theorems as quantities_proofs
use Rattle.quantities.specs.declared.Quantity.{Quantity}
use Rattle.figures.specs.Coding.{label_for, quantity_at, coded_nearest, coded_under, coded_measured, coded_of}
use Rattle.figures.specs.Words.{quantity_of_label, unmeasured}
use Rattle.reassembly_parts.specs.Sequence.{InSequence}
use Rattle.reassembly_parts.proofs.Sequence.{in_sequence}
use Rattle.reassembly_parts.specs.Take.{take_of}
use Rattle.reassembly_parts.specs.declared.Answer.{Answer}
use Rattle.reassembly_parts.specs.declared.Part.{Part}
use Rattle.part_words.specs.Carries.{Carries, PartKind, agrees-tested}
use Rattle.part_words.proofs.Carries.{part1, part2, part3, part4, other_label, carries}
use Rattle.part_words.specs.Carries as reassembly-carries
use Rattle.part_words.specs.Parts.{part_in}
use Rattle.reassembly.specs.Step.{answer_of}
use Rattle.reassembly.specs.declared.Reassembler.{Reassembler}
use Rattle.contents.specs.Contents.{word_in, figure_in}
use Rattle.fields.specs.Grammar.{Bytes}
use Rattle.fields.specs.Answers.{scanned}
use Rattle.fields.proofs.Judged.{sheet_order, inside_order}
use Rattle.fields.specs.Rules.{sheet_rules, inside_rules}
use Rattle.fields.specs.Run.{Field, Scan, Fields, Refused, sheet_of, inside_of}
use Rattle.sheet.specs.Checked.{checked_of}
use Rattle.reader.specs.Fields.{field_in}
use Rattle.totals.specs.Totals.{totals_of}
use Rattle.listing.specs.Listing.{listed_of}
use Rattle.demands.specs.ChainedLemmas.{chained}
use Rattle.demands.specs.EntryRules.{reach_rule, figure_rules, figure_rules_as, content_rules, room_rules, encoded, parts, taken, words, figures, checked, walked, counted, listed}

-- ---- records and figures

pub at_most : (m n : ℕ) → (leb m n ≡ true) ↔ (m ≤ n)
at_most m n = (λ e. leb-true m n e, λ h. le-leb m n h)

pub figure_follows_as : (q : Quantity) (label source : ℕ) (figure : ℤ) → Follows encoded (figure_rules_as q source figure) (coded_under q label source figure)
figure_follows_as q label source figure =
    let few = at_most source 3 in
    tested encoded (leb source 3) (source ≤ 3) Refusal.Code _ _ few.0 few.1 (λ s. by (nearest_count q figure) refl)
  where
    by : (n : Option ℤ) → nearest_count q figure ≡ n → Follows encoded (asks (Beyond q figure → ⊥) Refusal.Reach ∷ []) (coded_nearest q label source n)
    by (Some c) e =
        let w : Result ℕ Refusal = coded_nearest q label source (Some c) in
        let within : Beyond q figure → ⊥ = λ b.
        let out : Some c ≡ None = sym e ∙ (quantities_proofs.refused q figure).1 b in
        let z : ◌≡◌ {A = ℕ} 0 1 = cc in omega arith in
        kept-one encoded (Beyond q figure → ⊥) Refusal.Reach [] w within (no_rules encoded w (_, refl))
    by None e = broken_one encoded (Beyond q figure → ⊥) Refusal.Reach [] (λ n. n ((quantities_proofs.refused q figure).0 e))

module _ (label source : ℕ) (figure : ℤ) where
  -- a label stands for one quantity only
  one_quantity : (p q : Quantity) → label ≡ label_for document01 p → label ≡ label_for document01 q → p ≡ q
  one_quantity p q e f =
      let both : Some p ≡ Some q = sym (quantity_of_label document01 p) ∙ ap (quantity_at document01) (sym e ∙ f) ∙ quantity_of_label document01 q in
      cc

  reach_follows : (q : Quantity) → label ≡ label_for document01 q → (n : Option ℤ) → nearest_count q figure ≡ n → Follows encoded (reach_rule label figure ∷ []) (coded_nearest q label source n)
  reach_follows q own (Some c) e =
      let w : Result ℕ Refusal = coded_nearest q label source (Some c) in
      let within : (p : Quantity) → label ≡ label_for document01 p → Beyond p figure → ⊥ = λ p f b.
      let out : Some c ≡ None = sym e ∙ (quantities_proofs.refused q figure).1 (subst (λ (x : Quantity). Beyond x figure) (one_quantity p q f own) b) in
      let z : ◌≡◌ {A = ℕ} 0 1 = cc in omega arith in
      kept-first encoded (reach_rule label figure) [] w within (λ f b. within b.0 b.1 b.2) (no_rules encoded w (_, refl))
  reach_follows q own None e =
      let far : Beyond q figure = (quantities_proofs.refused q figure).0 e in
      broken_first encoded (reach_rule label figure) [] Refusal.Reach (λ k. k q own far) (q, own, far, refl) (λ g b. b.3)

  measured_follows : (q : Quantity) → label ≡ label_for document01 q → Follows encoded (asks (source ≤ 3) Refusal.Code ∷ reach_rule label figure ∷ []) (coded_under q label source figure)
  measured_follows q own =
      let few = at_most source 3 in
      tested encoded (leb source 3) (source ≤ 3) Refusal.Code _ _ few.0 few.1 (λ s. reach_follows q own (nearest_count q figure) refl)

  five : ((q : Quantity) × (label ≡ label_for document01 q)) ⊎ ((q : Quantity) → label ≢ label_for document01 q)
  five = by (eqb label (label_for document01 Quantity.Azimuth)) refl (eqb label (label_for document01 Quantity.Course)) refl (eqb label (label_for document01 Quantity.Glide)) refl
      (eqb label (label_for document01 Quantity.MlsAzimuth)) refl (eqb label (label_for document01 Quantity.MlsGlide)) refl
    where
      by : (a : Bool) → eqb label (label_for document01 Quantity.Azimuth) ≡ a → (b : Bool) → eqb label (label_for document01 Quantity.Course) ≡ b
          → (c : Bool) → eqb label (label_for document01 Quantity.Glide) ≡ c → (d : Bool) → eqb label (label_for document01 Quantity.MlsAzimuth) ≡ d
          → (e : Bool) → eqb label (label_for document01 Quantity.MlsGlide) ≡ e
          → ((q : Quantity) × (label ≡ label_for document01 q)) ⊎ ((q : Quantity) → label ≢ label_for document01 q)
      by true ea b eb c ec d ed e ee = inl (Quantity.Azimuth, eqb-true _ _ ea)
      by false ea true eb c ec d ed e ee = inl (Quantity.Course, eqb-true _ _ eb)
      by false ea false eb true ec d ed e ee = inl (Quantity.Glide, eqb-true _ _ ec)
      by false ea false eb false ec true ed e ee = inl (Quantity.MlsAzimuth, eqb-true _ _ ed)
      by false ea false eb false ec false ed true ee = inl (Quantity.MlsGlide, eqb-true _ _ ee)
      by false ea false eb false ec false ed false ee = inr none
        where
          none : (q : Quantity) → label ≢ label_for document01 q
          none Quantity.Azimuth = eqb-false _ _ ea
          none Quantity.Course = eqb-false _ _ eb
          none Quantity.Glide = eqb-false _ _ ec
          none Quantity.MlsAzimuth = eqb-false _ _ ed
          none Quantity.MlsGlide = eqb-false _ _ ee

  pub figure_follows : Follows encoded (figure_rules label source figure) (coded_of label source figure)
  figure_follows = elim five [
    | inl (q, own) ↦ kept-one encoded ((p : Quantity) × (label ≡ label_for document01 p)) Refusal.Label _ _ (q, own)
        (subst⁻¹ (λ (m : Option Quantity). Follows encoded (asks (source ≤ 3) Refusal.Code ∷ reach_rule label figure ∷ []) (coded_measured m label source figure))
        (ap (quantity_at document01) own ∙ quantity_of_label document01 q) (measured_follows q own))
    | inr none ↦ subst⁻¹ (λ (m : Option Quantity). Follows encoded (figure_rules label source figure) (coded_measured m label source figure)) (unmeasured document01 label none)
        (broken_one encoded ((p : Quantity) × (label ≡ label_for document01 p)) Refusal.Label _ (λ s. none s.0 s.1))
  ]

-- ---- parts

abbrev ZerosKept : ℕ → Type 0
ZerosKept w = (label_of w ≡ 0o143 → bits 12 13 w ≡ 0) × (label_of w ≢ 0o143 → bits 11 13 w ≡ 0)

abbrev last_rules : ℕ → List (Rule Refusal)
last_rules w = asks (ZerosKept w) Refusal.ZeroBit ∷ asks (label_of w ≡ 0o140 + bits 30 31 w) Refusal.Code ∷ []

too_many : (l : ℕ) → 0o144 ≤ l → l ≤ 0o143 → ⊥
too_many l h k = omega arith

above : (l m : ℕ) → m ≤ l → (l ≡ m → ⊥) → suc m ≤ l
above l m h n = omega (arith, h, n)

none_of_four : (l : ℕ) → (l ≡ 0o140 → ⊥) → (l ≡ 0o141 → ⊥) → (l ≡ 0o142 → ⊥) → (l ≡ 0o143 → ⊥) → 0o140 ≤ l → l ≤ 0o143 → ⊥
none_of_four l a b c d low high =
    let past : 0o144 ≤ l = above l 0o143 (above l 0o142 (above l 0o141 (above l 0o140 low a) b) c) d in
    too_many l past high

code_is : (l b code : ℕ) → l ≡ 0o140 + code → l ≡ 0o140 + b → b ≡ code
code_is l b code own k = omega arith

module _ (w : ℕ) where
  tested_follows : (from code : ℕ) (p : Part) → ((bits from 13 w ≡ 0) ↔ ZerosKept w) → label_of w ≡ 0o140 + code → Follows parts (last_rules w) (reassembly-carries.tested from code w p)
  tested_follows from code p zeros own =
      tested parts (eqb (bits from 13 w) 0) (ZerosKept w) Refusal.ZeroBit _ _ (λ e. zeros.0 (eqb-true (bits from 13 w) 0 e)) (λ k. eq-eqb (bits from 13 w) 0 (zeros.1 k))
      (λ z. tested parts (eqb (bits 30 31 w) code) (label_of w ≡ 0o140 + bits 30 31 w) Refusal.Code [] (Ok p)
      (λ e. own ∙ ap (λ (n : ℕ). 0o140 + n) (sym (eqb-true (bits 30 31 w) code e))) (λ k. eq-eqb (bits 30 31 w) code (code_is (label_of w) (bits 30 31 w) code own k))
      (λ k. no_rules parts (Ok p) (p, refl)))

  early : label_of w ≢ 0o143 → (bits 11 13 w ≡ 0) ↔ ZerosKept w
  early n = (λ z. (λ e. absurd (n e), λ m. z), λ k. k.1 n)

  late : label_of w ≡ 0o143 → (bits 12 13 w ≡ 0) ↔ ZerosKept w
  late e = (λ z. (λ f. z, λ n. absurd (n e)), λ k. k.0 e)

  abbrev pub LabelKept : Type 0
  LabelKept = (0o140 ≤ label_of w) × (label_of w ≤ 0o143)

  of_part : {k : Kind} {from code : ℕ} {p : ℕ → Part} → PartKind k from code p → odd w ≡ true → label_of w ≡ document01.label k → label_of w ≡ 0o140 + code → code ≤ 3
      → ((bits from 13 w ≡ 0) ↔ ZerosKept w) → Follows parts (asks LabelKept Refusal.Label ∷ last_rules w) (part_in w)
  of_part {k} {from} {code} {p} r o own at few zeros =
      kept-one parts LabelKept Refusal.Label _ _ (omega arith, omega arith)
      (subst⁻¹ (Follows parts (last_rules w)) (agrees-tested r document01 w o own) (tested_follows from code (p w) zeros at))

  pub label_follows : odd w ≡ true → Follows parts (asks LabelKept Refusal.Label ∷ last_rules w) (part_in w)
  label_follows o = by (eqb (label_of w) 0o140) refl (eqb (label_of w) 0o141) refl (eqb (label_of w) 0o142) refl (eqb (label_of w) 0o143) refl
    where
      by : (a : Bool) → eqb (label_of w) 0o140 ≡ a → (b : Bool) → eqb (label_of w) 0o141 ≡ b → (c : Bool) → eqb (label_of w) 0o142 ≡ c → (d : Bool) → eqb (label_of w) 0o143 ≡ d
          → Follows parts (asks LabelKept Refusal.Label ∷ last_rules w) (part_in w)
      by true ea b eb c ec d ed = let own : label_of w ≡ 0o140 = eqb-true _ _ ea in of_part part1 o own own (omega arith) (early (λ e. omega arith))
      by false ea true eb c ec d ed = let own : label_of w ≡ 0o141 = eqb-true _ _ eb in of_part part2 o own own (omega arith) (early (λ e. omega arith))
      by false ea false eb true ec d ed = let own : label_of w ≡ 0o142 = eqb-true _ _ ec in of_part part3 o own own (omega arith) (early (λ e. omega arith))
      by false ea false eb false ec true ed = let own : label_of w ≡ 0o143 = eqb-true _ _ ed in of_part part4 o own own (omega arith) (late own)
      by false ea false eb false ec false ed =
          let n0 = eqb-false _ _ ea in
          let n1 = eqb-false _ _ eb in
          let n2 = eqb-false _ _ ec in
          let n3 = eqb-false _ _ ed in
          subst⁻¹ (Follows parts (asks LabelKept Refusal.Label ∷ last_rules w)) (other_label document01 w o n0 n1 n2 n3)
          (broken_one parts LabelKept Refusal.Label _ (λ h. none_of_four (label_of w) n0 n1 n2 n3 h.0 h.1))

-- what is taken or out of sequence
module _ (held : Reassembler) (w : ℕ) where
  abbrev pub InTurn : Type 0
  InTurn = (p : Part) → Carries document01 p w → InSequence held.group_c p

  given_so : (x : Answer) → (x ≡ Answer.OutOfSequence → ⊥) → taken.accepts (answer_of x)
  given_so Answer.Incomplete n = (_, refl)
  given_so (Answer.Complete g) n = (_, refl)
  given_so Answer.OutOfSequence n = absurd (n refl)

  pub sequence_follows : (p : Part) → part_in w ≡ Ok p → InSequence held.group_c p ⊎ ((take_of held.group_c p).answer ≡ Answer.OutOfSequence)
      → Follows taken (asks InTurn Refusal.Sequence ∷ []) (answer_of (take_of held.group_c p).answer)
  sequence_follows p e (inl i) =
      kept-one taken InTurn Refusal.Sequence [] _
      (λ q c. let same : ◌≡◌ {A = Result Part Refusal} (Ok p) (Ok q) = sym e ∙ (carries document01 w q).1 c in let one : p ≡ q = cc in subst (InSequence held.group_c) one i)
      (no_rules taken _ (given_so (take_of held.group_c p).answer (in_sequence held.group_c p i)))
  sequence_follows p e (inr out) =
      subst⁻¹ (λ (x : Answer). Follows taken (asks InTurn Refusal.Sequence ∷ []) (answer_of x)) out
      (broken_one taken InTurn Refusal.Sequence [] (λ k. in_sequence held.group_c p (k p ((carries document01 w p).0 e)) out))

-- ---- contents

pub word_in_follows : (c : List ℕ) → Follows words (content_rules 4 c) (word_in c)
word_in_follows c = tested words (eqb (length c) 4) (length c ≡ 4) Refusal.Length [] _ (eqb-true _ _) (eq-eqb _ _) (λ k. no_rules words _ (_, refl))

pub figure_in_follows : (c : List ℕ) → Follows figures (content_rules 9 c) (figure_in c)
figure_in_follows c = tested figures (eqb (length c) 9) (length c ≡ 9) Refusal.Length [] _ (eqb-true _ _) (eq-eqb _ _) (λ k. no_rules figures _ (_, refl))

-- ---- sheets

-- what hands a sheet's refusal on, and gives something of its fields
module _ (s : List ℕ) (bytes : Bytes s) where
  pub checked_follows : Follows checked (sheet_rules s) (checked_of (sheet_of s))
  checked_follows = chained scanned checked (sheet_rules s) [] (sheet_of s) (checked_of (sheet_of s)) (sheet_order s bytes) (by (sheet_of s))
    where
      by : (x : Scan) → ((r : Refusal × ℕ) × (x ≡ Refused r.0 r.1) × (checked_of x ≡ checked.refuse r)) ⊎ (scanned.accepts x × Follows checked [] (checked_of x))
      by (Fields fs) = inr ((fs, refl), no_rules checked _ (tt, refl))
      by (Refused f p) = inl ((f, p), refl, refl)

  pub totals_follow : Follows counted (sheet_rules s) (totals_of (sheet_of s))
  totals_follow = chained scanned counted (sheet_rules s) [] (sheet_of s) (totals_of (sheet_of s)) (sheet_order s bytes) (by (sheet_of s))
    where
      by : (x : Scan) → ((r : Refusal × ℕ) × (x ≡ Refused r.0 r.1) × (totals_of x ≡ counted.refuse r)) ⊎ (scanned.accepts x × Follows counted [] (totals_of x))
      by (Fields fs) = inr ((fs, refl), no_rules counted _ (_, refl))
      by (Refused f p) = inl ((f, p), refl, refl)

  pub field-given : (fs : List Field) (n : ℕ) → walked.accepts (field_in fs n)
  field-given [] n = (_, refl)
  field-given (f ∷ fs) zero = (_, refl)
  field-given (f ∷ fs) (suc n) = field-given fs n

pub inside_follows : (run : List ℕ) → Bytes run → Follows checked (inside_rules run) (checked_of (inside_of run))
inside_follows run bytes = chained scanned checked (inside_rules run) [] (inside_of run) (checked_of (inside_of run)) (inside_order run bytes) (by (inside_of run))
  where
    by : (x : Scan) → ((r : Refusal × ℕ) × (x ≡ Refused r.0 r.1) × (checked_of x ≡ checked.refuse r)) ⊎ (scanned.accepts x × Follows checked [] (checked_of x))
    by (Fields fs) = inr ((fs, refl), no_rules checked _ (tt, refl))
    by (Refused f p) = inl ((f, p), refl, refl)

-- ---- writing

pub listed_follows : (text out : List ℕ) → Follows listed (room_rules (length out) (length text)) (listed_of text out)
listed_follows text out = by (ltb (length out) (length text)) refl
  where
    by : (short : Bool) → ltb (length out) (length text) ≡ short
        → Follows listed (room_rules (length out) (length text)) (cond short (Err Refusal.Room) (Ok (length text)))
    by true e = let past : length out < length text = ltb-true _ _ e in broken_one listed (length text ≤ length out) Refusal.Room [] (λ h. omega arith)
    by false e = kept-one listed (length text ≤ length out) Refusal.Room [] _ (ltb-false _ _ e) (no_rules listed _ (_, refl))
