-- Which note a place names: the one that starts there, of which there is at most one, and its text is a part of the sheet.
-- Assumes nothing.
use Rattle.std.specs.Prelude.{◌≡◌, refl, Bool, true, false, ◌&&◌, cond, ℕ, ◌+◌, ◌≤◌, eqb, length, take, drop}
use Rattle.std.proofs.Common.{sym, ap, ◌∙◌, arith, eqb-true}
use mathlib.Core.List.Memᴰ
use mathlib.Core.List.{List, [], ◌∷◌, Memᴰ}
use Rattle.std.specs.Borrow.{Bor}
use Rattle.refusals.specs.declared.Refusal.{Refusal}
use Rattle.fields.specs.declared.FieldKind.{FieldKind}
use Rattle.fields.specs.Run.{Field, Scan, Fields, Refused, sheet_of}
use Rattle.walk.specs.WithinLemmas.{drop-take}
use Rattle.walk.specs.Walked.{InSheet}
use Rattle.walk.proofs.Walked.{content_in_sheet}
use Rattle.notes.specs.Note.{NoteText, Text, NoText, is_note, note_in, note_of, found_of, span_of, PartOf}
use Rattle.notes.specs.Place.{Lies, lies_nowhere}

is_note_lem : (k : FieldKind) → is_note k ≡ true → k ≡ FieldKind.Note
is_note_lem FieldKind.Word e = let z : ◌≡◌ {A = ℕ} 0 1 = cc in absurd (omega arith)
is_note_lem FieldKind.Figure e = let z : ◌≡◌ {A = ℕ} 0 1 = cc in absurd (omega arith)
is_note_lem FieldKind.Note e = refl
is_note_lem FieldKind.Group e = let z : ◌≡◌ {A = ℕ} 0 1 = cc in absurd (omega arith)

-- Any other place is refused 10.
no_note_in : (fs : List Field) (p : ℕ) → ((f : Field) → Memᴰ f fs → f.kind ≡ FieldKind.Note → f.place ≡ p → ⊥) → note_in fs p ≡ NoText Refusal.Tag p
no_note_in [] p h = refl
no_note_in (f ∷ fs) p h = by (is_note f.kind) refl (eqb f.place p) refl (no_note_in fs p (λ g m. h g (Memᴰ.tail m)))
  where
    by : (a : Bool) → is_note f.kind ≡ a → (b : Bool) → eqb f.place p ≡ b → note_in fs p ≡ NoText Refusal.Tag p
        → cond (a && b) (Text f.content) (note_in fs p) ≡ NoText Refusal.Tag p
    by false ea b eb rest = rest
    by true ea false eb rest = rest
    by true ea true eb rest = absurd (h f (Memᴰ.head refl) (is_note_lem f.kind ea) (eqb-true f.place p eb))

pub no_note : (s : List ℕ) (fs : List Field) (p : ℕ) → sheet_of s ≡ Fields fs → ((f : Field) → Memᴰ f fs → f.kind ≡ FieldKind.Note → f.place ≡ p → ⊥)
    → note_of (sheet_of s) p ≡ NoText Refusal.Tag p
no_note s fs p e h = ap (λ (r : Scan). note_of r p) e ∙ no_note_in fs p h

-- The sheet's own refusal comes first.
pub sheet_refused : (s : List ℕ) (f : Refusal) (q p : ℕ) → sheet_of s ≡ Refused f q → note_of (sheet_of s) p ≡ NoText f q
sheet_refused s f q p e = ap (λ (r : Scan). note_of r p) e

lies_at : (s : List ℕ) (p : ℕ) (f : Field) → f.place ≡ p → InSheet s f → Lies s p (Text f.content)
lies_at s p f e h =
    let ends : f.place + 3 + length f.content ≤ length s = h.ends in
    let after-header : p + 3 ≤ length s = omega arith in
    record {
      ordered = omega arith;
      in_sheet = omega arith;
      holds =
          drop-take (p + 3) (length f.content) s after-header
          ∙ ap (λ (q : ℕ). take (length f.content) (drop (q + 3) s)) (sym e)
          ∙ sym h.content;
    }

lies_in : (s : List ℕ) (p : ℕ) (fs : List Field) → ((f : Field) → Memᴰ f fs → InSheet s f) → Lies s p (note_in fs p)
lies_in s p [] h = lies_nowhere s p Refusal.Tag p
lies_in s p (f ∷ fs) h = by (is_note f.kind) (eqb f.place p) refl (lies_in s p fs (λ g m. h g (Memᴰ.tail m)))
  where
    by : (a b : Bool) → eqb f.place p ≡ b → Lies s p (note_in fs p) → Lies s p (cond (a && b) (Text f.content) (note_in fs p))
    by false b eb rest = rest
    by true false eb rest = rest
    by true true eb rest = lies_at s p f (eqb-true f.place p eb) (h f (Memᴰ.head refl))

-- The text is the sheet's bytes from its start to its end.
pub text_lies : (s : List ℕ) (p : ℕ) → Lies s p (note_of (sheet_of s) p)
text_lies s p = by (sheet_of s) refl
  where
    by : (r : Scan) → sheet_of s ≡ r → Lies s p (note_of r p)
    by (Fields fs) e = lies_in s p fs (λ f m. content_in_sheet s fs f e m)
    by (Refused f q) e = lies_nowhere s p f q

-- A slice that is the text points into the sheet's memory, 3 bytes past the note's place.
pub text_points : (sheet part : Bor (List ℕ)) (p : ℕ) (t : List ℕ) → note_of (sheet_of sheet.now) p ≡ Text t
    → PartOf sheet (span_of (found_of p (note_of (sheet_of sheet.now) p))) part → part.ref_ptr ≡ (sheet.ref_ptr.0, p + 3 + sheet.ref_ptr.1)
text_points sheet part p t e h = h.lies ∙ ap (λ (n : NoteText). (sheet.ref_ptr.0, (span_of (found_of p n)).start + sheet.ref_ptr.1)) e
