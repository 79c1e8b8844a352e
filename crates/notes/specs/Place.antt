-- Which note a place names: the one that starts there, of which there is at most one, and its text is a part of the sheet.
-- Assumes nothing.
use Rattle.std.specs.Prelude.{◌≡◌, refl, Bool, ◌&&◌, cond, ℕ, ◌≤◌, ◌<◌, length, take, drop, Result}
use Rattle.std.proofs.Common.{sym, ap, ap₂, ◌∙◌, ⊎_elim, arith, eq-eqb, ne_eqb}
use Rattle.std.proofs.Math.Bool.{and-false}
use mathlib.Core.List.Memᴰ
use mathlib.Core.List.{List, [], ◌∷◌, Memᴰ}
use Rattle.refusals.specs.declared.Refusal.{Refusal}
use Rattle.fields.specs.declared.FieldKind.{FieldKind}
use Rattle.fields.specs.Run.{Field, Scan, Fields, sheet_of}
use Rattle.walk.specs.declared.Position.{Position}
use Rattle.walk.specs.Step.{start_walk}
use Rattle.walk.specs.Step.{step_of}
use Rattle.walk.specs.Stands.{Stands}
use Rattle.walk.proofs.Walked.{starts}
use Rattle.walk.proofs.Walked.{steps, rising}
use Rattle.notes.specs.Note.{NoteText, Text, NoText, is_note, note_in, note_of, text_of, found_of, span_of}

-- ---- which note

note_ahead : (s : List ℕ) (w : Result Position (Refusal × ℕ)) (fs : List Field) (f : Field) → Stands s w (Fields fs) → Memᴰ f fs → f.kind ≡ FieldKind.Note
    → note_in fs f.place ≡ Text f.content
note_ahead s w [] f h m k = absurd (Memᴰ.not-nil m)
note_ahead s w (g ∷ fs) f h m k =
    ⊎_elim (λ e. here e)
    (λ later. passed (rising s w g f fs h later) ∙ note_ahead s (step_of s w).next fs f (steps s w g fs h).next later k)
    (Memᴰ.cases_cons m)
  where
    here : f ≡ g → note_in (g ∷ fs) f.place ≡ Text f.content
    here e =
        ap (λ (x : Field). note_in (x ∷ fs) f.place) (sym e)
        ∙ ap₂ (λ (a b : Bool). cond (a && b) (Text f.content) (note_in fs f.place)) (ap is_note k) (eq-eqb f.place f.place refl)

    passed : g.place < f.place → note_in (g ∷ fs) f.place ≡ note_in fs f.place
    passed l =
        ap (λ (b : Bool). cond (is_note g.kind && b) (Text g.content) (note_in fs f.place)) (ne_eqb g.place f.place (λ e. omega arith))
        ∙ ap (λ (b : Bool). cond b (Text g.content) (note_in fs f.place)) (and-false (is_note g.kind))

-- The place of a note gives its content.
pub note_by_place : (s : List ℕ) (fs : List Field) (f : Field) → sheet_of s ≡ Fields fs → Memᴰ f fs → f.kind ≡ FieldKind.Note
    → note_of (sheet_of s) f.place ≡ Text f.content
note_by_place s fs f e m k = ap (λ (r : Scan). note_of r f.place) e ∙ note_ahead s (start_walk s) fs f (starts s (Fields fs) e) m k

-- ---- where its text lies

-- the part of the sheet from the start to the end of a text, which holds it
pub record Lies (s : List ℕ) (p : ℕ) (t : NoteText) : Type 0 where
  pub ordered : (span_of (found_of p t)).start ≤ (span_of (found_of p t)).end
  pub in_sheet : (span_of (found_of p t)).end ≤ length s
  pub holds : drop (span_of (found_of p t)).start (take (span_of (found_of p t)).end s) ≡ text_of t

pub lies_nowhere : (s : List ℕ) (p : ℕ) (f : Refusal) (q : ℕ) → Lies s p (NoText f q)
lies_nowhere s p f q = record { ordered = omega arith; in_sheet = omega arith; holds = refl }
