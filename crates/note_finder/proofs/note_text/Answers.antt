-- The text lies in the sheet (`text_lies`), so the part from its start to its end is the text.
use Rattle.std.specs.Prelude.{Result}
use Rattle.std.proofs.Common.{◌≡◌, sym, ap, subst, ◌∙◌, List, ℕ, ◌+◌, ◌-◌, ◌≤◌, length, take, drop, arith}
use Rattle.fields.specs.Run.{sheet_of}
use Rattle.walk.specs.WithinLemmas.{drop-take}
use Rattle.refusals.specs.declared.Refusal.{Refusal}
use Rattle.notes.specs.declared.Span.{Span}
use Rattle.notes.specs.Note.{NoteText, note_of, found_of, span_of}
use Rattle.notes.specs.Place.{Lies}
use Rattle.notes.proofs.Place.{text_lies}
use Rattle.note_finder.proofs.note_text.Goals as goal

-- the code's form of a part
as_part : (a e : ℕ) (s : List ℕ) → a ≤ e → e ≤ length s → take (e - a) (drop a s) ≡ drop a (take e s)
as_part a e s h k =
    let whole : a + (e - a) ≡ e = omega arith in
    sym (drop-take a (e - a) s (omega arith)) ∙ ap (λ (n : ℕ). drop a (take n s)) whole

-- the part that the code takes is within the sheet
record Part (s : List ℕ) (p : ℕ) (t : NoteText) (v : Span) : Type 0 where
  pub ordered : v.start ≤ v.end
  pub in_sheet : v.end ≤ length s
  pub holds : take (v.end - v.start) (drop v.start s) ≡ drop (span_of (found_of p t)).start (take (span_of (found_of p t)).end s)

part_of : (s : List ℕ) (p : ℕ) (t : NoteText) (v : Span) → v ≡ span_of (found_of p t) → Lies s p t → Part s p t v
part_of s p t v e l =
    subst (Part s p t) (sym e) (record { ordered = l.ordered; in_sheet = l.in_sheet; holds = as_part _ _ s l.ordered l.in_sheet })

taken : (s : List ℕ) (p : ℕ) (f : Result (ℕ × ℕ) (Refusal × ℕ)) (v : Span) → v ≡ span_of f → f ≡ found_of p (note_of (sheet_of s) p) → Part s p (note_of (sheet_of s) p) v
taken s p f v e e' = part_of s p (note_of (sheet_of s) p) v (e ∙ ap span_of e') (text_lies s p)

pub slice_bounds-result-end : goal.slice_bounds-result-end
slice_bounds-result-end c = (taken c.args.sheet.now c.args.place _ _ c.span_of-span.ensures c.find_note.ensures).in_sheet

pub returns-clause-text : goal.returns-clause-text
returns-clause-text c =
    let s = c.args.sheet.now in
    (taken s c.args.place _ _ c.span_of-span.ensures c.find_note.ensures).holds ∙ (text_lies s c.args.place).holds

pub returns-clause-part : goal.returns-clause-part
returns-clause-part c =
    let x = c.args.sheet in
    record {
      lies = ap (λ (v : Span). (x.ref_ptr.0, v.start + x.ref_ptr.1)) (c.span_of-span.ensures ∙ ap span_of c.find_note.ensures);
      holds = (taken x.now c.args.place _ _ c.span_of-span.ensures c.find_note.ensures).holds;
    }
