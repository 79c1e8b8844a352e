-- Why each entry point follows its rules.
-- Assumes nothing.
use Rattle.std.specs.Prelude.{◌≡◌, refl, Bool, true, false, cond, ◌&&◌, ◌⊎◌, ℕ, ◌+◌, ◌^◌, ◌≤◌, ◌<◌, eqb, leb, ltb, length, Result, Ok, Err}
use Rattle.std.proofs.Common.{sym, ap, ◌∙◌, inl, inr, arith, eqb-true, ltb-true, ltb-false}
use Rattle.std.proofs.Math.Path.{subst⁻¹}
use mathlib.Core.List.{List, [], ◌∷◌, Memᴰ}
use Rattle.bits.specs.Parity.{odd}
use Rattle.refusals.specs.Order.{asks, Follows}
use Rattle.refusals.proofs.Order.{kept-one, broken_one, tested}
use Rattle.refusals.specs.Order.{no_rules}
use Rattle.refusals.specs.declared.Refusal.{Refusal}
use Rattle.records.specs.declared.Record.{Record}
use Rattle.labels.proofs.Assignment.{document01}
use Rattle.encode.specs.Encode.{codes_listed, values_legal, word_as, encode_under, encode_as}
use Rattle.reassembly_parts.specs.declared.Part.{Part}
use Rattle.reassembly_parts.specs.Sequence.{sequence}
use Rattle.reassembly_parts.specs.declared.Step.{Step}
use Rattle.part_words.specs.Parts.{part_in, parity_broken}
use Rattle.reassembly.specs.Step.{step_of, take_word}
use Rattle.reassembly.specs.declared.Reassembler.{Reassembler}
use Rattle.reassembly.specs.declared.WordAnswer.{WordAnswer}
use Rattle.fields.specs.declared.FieldKind.{FieldKind}
use Rattle.fields.specs.Grammar.{Bytes}
use Rattle.fields.specs.Answers.{scanned}
use Rattle.fields.proofs.Judged.{sheet_order, inside_order}
use Rattle.fields.specs.Rules.{sheet_rules, inside_rules}
use Rattle.fields.specs.Run.{Field, Scan, Fields, Refused, sheet_limit, sheet_of, inside_of}
use Rattle.walk.specs.Step.{start_walk}
use Rattle.walk.specs.Step as walk
use Rattle.walk.specs.Walked.{after}
use Rattle.reader.specs.Fields.{field_at}
use Rattle.reader.proofs.Fields.{walk_gives_at}
use Rattle.notes.specs.Note.{Text, NoText, is_note, note_in, note_of}
use Rattle.notes.specs.Place.{note_by_place}
use Rattle.writer.specs.Write.{answer_of as writeAnswer, write_of, unless_refused, group_of}
use Rattle.demands.specs.ChainedLemmas.{chained}
use Rattle.demands.specs.Legal.{LegalCodes, LegalValues}
use Rattle.demands.specs.TestsLemmas.{odd_test}
use Rattle.demands.specs.WritingLemmas.{legal_codes_test}
use Rattle.demands.proofs.WritingLemmas.{values_test}
use Rattle.demands.specs.EntryRules.{record_rules, record_rules_as, part_rules, take_rules, NoteAt, note_rules, write_rules, group_rules, encoded, parts, taken, walked, noted, written}
use Rattle.demands.specs.EntryRulesLemmas.{at_most, label_follows, InTurn, sequence_follows, field-given}

pub record_follows : (label : ℕ) (r : Record) → Follows encoded (record_rules r) (encode_under label r)
record_follows label r =
    let codes = legal_codes_test r in
    let values = values_test r.body in
    tested encoded (leb r.source 3 && codes_listed r.body) (LegalCodes r) Refusal.Code _ _ codes.0 codes.1
    (λ c. tested encoded (values_legal r.body) (LegalValues r) Refusal.Value [] _ values.0 values.1 (λ v. no_rules encoded (Ok (word_as label r)) (word_as label r, refl)))

pub record_follows_as : (label : ℕ) (r : Record) → Follows encoded (record_rules_as label r) (encode_as label r)
record_follows_as label r =
    let short = at_most label 255 in
    tested encoded (leb label 255) (label ≤ 255) Refusal.Label _ _ short.0 short.1 (λ l. record_follows label r)

module _ (w : ℕ) where
  pub part_follows : w < 2 ^ 32 → Follows parts (part_rules w) (part_in w)
  part_follows h = by (odd w) refl
    where
      by : (b : Bool) → odd w ≡ b → Follows parts (part_rules w) (part_in w)
      by true o = kept-one parts _ Refusal.Parity _ _ ((odd_test w h).0 o) ((label_follows w) o)
      by false o =
          subst⁻¹ (Follows parts (part_rules w)) (parity_broken document01 w o)
          (broken_one parts _ Refusal.Parity _ (λ k. let z : ◌≡◌ {A = Bool} true false = sym ((odd_test w h).1 k) ∙ o in let y : ◌≡◌ {A = ℕ} 0 1 = cc in omega arith))

module _ (held : Reassembler) (w : ℕ) where
  pub take_follows : w < 2 ^ 32 → Follows taken (take_rules held w) (take_word held w).answer
  take_follows h = chained parts taken (part_rules w) (asks (InTurn held w) Refusal.Sequence ∷ []) (part_in w) (take_word held w).answer (part_follows w h) (by (part_in w) refl)
    where
      by : (x : Result Part Refusal) → part_in w ≡ x
          → ((f : Refusal) × (part_in w ≡ Err f) × ((take_word held w).answer ≡ WordAnswer.Refused f))
          ⊎ (parts.accepts (part_in w) × Follows taken (asks (InTurn held w) Refusal.Sequence ∷ []) (take_word held w).answer)
      by (Err f) e = inl (f, e, ap (λ (x : Result Part Refusal). (step_of held x).answer) e)
      by (Ok p) e =
          inr (
            subst⁻¹ parts.accepts e (p, refl),
            subst⁻¹ (λ (x : Result Part Refusal). Follows taken (asks (InTurn held w) Refusal.Sequence ∷ []) (step_of held x).answer) e
                ((sequence_follows held w) p e (elim (sequence held.group_c p) [ inl i ↦ inl i | inr d ↦ inr (ap (λ (s : Step). s.answer) d) ])),
          )

module _ (s : List ℕ) (bytes : Bytes s) where
  pub walk_follows : (n : ℕ) → Follows walked (sheet_rules s) (walk.step_of s (after n s (start_walk s))).given
  walk_follows n =
      subst⁻¹ (Follows walked (sheet_rules s)) (walk_gives_at s n)
      (chained scanned walked (sheet_rules s) [] (sheet_of s) (field_at (sheet_of s) n) (sheet_order s bytes) (by (sheet_of s)))
    where
      by : (x : Scan) → ((r : Refusal × ℕ) × (x ≡ Refused r.0 r.1) × (field_at x n ≡ walked.refuse r)) ⊎ (scanned.accepts x × Follows walked [] (field_at x n))
      by (Fields fs) = inr ((fs, refl), no_rules walked _ ((field-given s bytes) fs n))
      by (Refused f p) = inl ((f, p), refl, refl)

  module _ (place : ℕ) where
    is_note_lem : (k : FieldKind) → is_note k ≡ true → k ≡ FieldKind.Note
    is_note_lem FieldKind.Word e = let z : ◌≡◌ {A = ℕ} 0 1 = cc in absurd (omega arith)
    is_note_lem FieldKind.Figure e = let z : ◌≡◌ {A = ℕ} 0 1 = cc in absurd (omega arith)
    is_note_lem FieldKind.Note e = refl
    is_note_lem FieldKind.Group e = let z : ◌≡◌ {A = ℕ} 0 1 = cc in absurd (omega arith)

    note-or-none : (fs : List Field) → ((f : Field) × Memᴰ f fs × (f.kind ≡ FieldKind.Note) × (f.place ≡ place)) ⊎ (note_in fs place ≡ NoText Refusal.Tag place)
    note-or-none [] = inr refl
    note-or-none (f ∷ fs) = by (is_note f.kind) refl (eqb f.place place) refl (note-or-none fs)
      where
        by : (a : Bool) → is_note f.kind ≡ a → (b : Bool) → eqb f.place place ≡ b
            → ((g : Field) × Memᴰ g fs × (g.kind ≡ FieldKind.Note) × (g.place ≡ place)) ⊎ (note_in fs place ≡ NoText Refusal.Tag place)
            → ((g : Field) × Memᴰ g (f ∷ fs) × (g.kind ≡ FieldKind.Note) × (g.place ≡ place)) ⊎ (cond (a && b) (Text f.content) (note_in fs place) ≡ NoText Refusal.Tag place)
        by true ea true eb rest = inl (f, Memᴰ.head refl, is_note_lem f.kind ea, eqb-true _ _ eb)
        by true ea false eb (inl (g, m, k, q)) = inl (g, Memᴰ.tail m, k, q)
        by true ea false eb (inr e) = inr e
        by false ea b eb (inl (g, m, k, q)) = inl (g, Memᴰ.tail m, k, q)
        by false ea b eb (inr e) = inr e

    text_given : NoteAt s place → (t : List ℕ) × (note_of (sheet_of s) place ≡ Text t)
    text_given n = (n.field.content, ap (note_of (sheet_of s)) (sym n.at) ∙ note_by_place s n.fields n.field n.legal n.among n.note)

    fields_noted : (fs : List Field) → sheet_of s ≡ Fields fs → Follows noted (asks (NoteAt s place) (Refusal.Tag, place) ∷ []) (note_of (sheet_of s) place)
    fields_noted fs e = elim (note-or-none fs) [
      | inl (f, m, k, q) ↦
          let here : NoteAt s place = record { fields = fs; legal = e; field = f; among = m; note = k; at = q } in
          let t = text_given here in
          kept-one noted (NoteAt s place) (Refusal.Tag, place) [] _ here
          (subst⁻¹ (Follows noted []) t.1 (no_rules noted (Text t.0) (t.0, refl)))
      | inr none ↦
          let out : note_of (sheet_of s) place ≡ NoText Refusal.Tag place = ap (λ (x : Scan). note_of x place) e ∙ none in
          subst⁻¹ (Follows noted (asks (NoteAt s place) (Refusal.Tag, place) ∷ [])) out
          (broken_one noted (NoteAt s place) (Refusal.Tag, place) [] (λ n. let t = text_given n in clash t.0 (sym out ∙ t.1)))
    ]
      where
        clash : (t : List ℕ) → NoText Refusal.Tag place ≡ Text t → ⊥
        clash t e = let z : ◌≡◌ {A = ℕ} 0 1 = cc in omega arith

    pub note_follows : Follows noted (note_rules s place) (note_of (sheet_of s) place)
    note_follows = chained scanned noted (sheet_rules s) (asks (NoteAt s place) (Refusal.Tag, place) ∷ []) (sheet_of s) (note_of (sheet_of s) place) (sheet_order s bytes) (by (sheet_of s) refl)
      where
        by : (x : Scan) → sheet_of s ≡ x → ((r : Refusal × ℕ) × (sheet_of s ≡ Refused r.0 r.1) × (note_of (sheet_of s) place ≡ noted.refuse r))
            ⊎ (scanned.accepts (sheet_of s) × Follows noted (asks (NoteAt s place) (Refusal.Tag, place) ∷ []) (note_of (sheet_of s) place))
        by (Fields fs) e = inr ((fs, e), fields_noted fs e)
        by (Refused f p) e = inl ((f, p), e, ap (λ (x : Scan). note_of x place) e)

pub write_follows : (room place n : ℕ) → Follows written (write_rules room place n) (writeAnswer room place n)
write_follows room place n = by (ltb sheet_limit (place + 3 + n)) refl (ltb room (place + 3 + n)) refl
  where
    by : (far : Bool) → ltb sheet_limit (place + 3 + n) ≡ far → (short : Bool) → ltb room (place + 3 + n) ≡ short
        → Follows written (write_rules room place n) (cond {A = Result ℕ (Refusal × ℕ)} far (Err (Refusal.Oversize, 0)) (cond short (Err (Refusal.Room, 0)) (Ok (place + 3 + n))))
    by true ef short es = let past : 32768 < place + 3 + n = ltb-true _ _ ef in broken_one written (place + 3 + n ≤ 32768) (Refusal.Oversize, 0) _ (λ h. omega arith)
    by false ef true es =
        let past : room < place + 3 + n = ltb-true _ _ es in
        kept-one written (place + 3 + n ≤ 32768) (Refusal.Oversize, 0) _ _ (ltb-false _ _ ef) (broken_one written (place + 3 + n ≤ room) (Refusal.Room, 0) [] (λ h. omega arith))
    by false ef false es =
        kept-one written (place + 3 + n ≤ 32768) (Refusal.Oversize, 0) _ _ (ltb-false _ _ ef)
        (kept-one written (place + 3 + n ≤ room) (Refusal.Room, 0) [] _ (ltb-false _ _ es) (no_rules written _ (_, refl)))

pub group_follows : (out : List ℕ) (place : ℕ) (run : List ℕ) → Bytes run → Follows written (group_rules (length out) place run) (group_of out place run).answer
group_follows out place run bytes =
    chained scanned written (inside_rules run) (write_rules (length out) place (length run)) (inside_of run) (group_of out place run).answer (inside_order run bytes) (by (inside_of run))
  where
    by : (x : Scan) → ((r : Refusal × ℕ) × (x ≡ Refused r.0 r.1) × ((unless_refused x out (write_of out place FieldKind.Group run)).answer ≡ written.refuse r))
        ⊎ (scanned.accepts x × Follows written (write_rules (length out) place (length run)) (unless_refused x out (write_of out place FieldKind.Group run)).answer)
    by (Fields fs) = inr ((fs, refl), write_follows (length out) place (length run))
    by (Refused f p) = inl ((f, p), refl, refl)
