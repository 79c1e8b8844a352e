-- A field added at the end of a legal sheet leaves a legal sheet, whose fields are the old ones, the new one, and what the new one holds inside.
-- Assumes nothing.
use Rattle.std.specs.Prelude.{◌≡◌, refl, Bool, true, cond, List, [], ◌∷◌, ◌++◌, map, ℕ, ◌+◌, ℤ, length, take, Ok}
use Rattle.std.proofs.Common.{sym, ap, ◌∙◌, arith, le-ltb, length-append}
use Rattle.refusals.specs.declared.Refusal.{Refusal}
use Rattle.fields.specs.declared.FieldKind.{FieldKind}
use Rattle.fields.specs.Start.{field_bytes, length_allowed}
use Rattle.fields.specs.Run.{Field, Scan, Fields, Refused, ◌and_then◌, inside, run_of, sheet_limit, sheet_of, inside_of}
use Rattle.fields.proofs.Append.{append}
use Rattle.fields.proofs.Grammar.{run_one}
use Rattle.fields.specs.Moved.{moved_field}
use Rattle.contents.specs.Contents.{word_bytes, figure_bytes}
use Rattle.writer.specs.Write.{Write, write_of, group_of}
use Rattle.writer.specs.Answers.{ends}
use Rattle.writer.specs.Buffer.{group_written}
use Rattle.writer.proofs.Buffer.{up_to_end}
use Rattle.writer.specs.Added.{at_top, top_run, inside-moved}

module _ (s out : List ℕ) (fs : List Field) (end : ℕ) (legal : sheet_of s ≡ Fields fs) (stands : take (length s) out ≡ s) where
  -- any field of an allowed length, with what it holds inside
  field_added : (k : FieldKind) (c : List ℕ) (gs : List Field) → length_allowed k (length c) ≡ true → inside run_of k 1 (length s) c ≡ Fields gs
      → (write_of out (length s) k c).answer ≡ Ok end
      → sheet_of (take end (write_of out (length s) k c).buffer) ≡ Fields (fs ++ (record { place = length s; depth = 1; kind = k; content = c } ∷ gs))
  field_added k c gs long within done =
      let bounds = ends (length out) (length s) (length c) end done in
      let field : Field = record { place = length s; depth = 1; kind = k; content = c } in
      let size : length (s ++ field_bytes k c) ≡ length s + (3 + length c) = length-append s (field_bytes k c) ∙ omega arith in
      ap sheet_of (up_to_end out (length s) k c end done ∙ ap (λ (l : List ℕ). l ++ field_bytes k c) stands)
      ∙ ap (λ (far : Bool). cond far (Refused Refusal.Oversize 0) (run_of 1 0 (s ++ field_bytes k c))) (le-ltb sheet_limit (length (s ++ field_bytes k c)) (omega (arith, bounds.limit)))
      ∙ append 1 0 s (field_bytes k c) fs (top_run s fs legal)
      ∙ ap (λ (p : ℕ). Fields fs and_then run_of 1 p (field_bytes k c)) (omega arith)
      ∙ ap (λ (x : Scan). Fields fs and_then x)
      (run_one 1 (length s) k c long (at_top k) ∙ ap (λ (x : Scan). Fields (field ∷ []) and_then x) within)

  pub word_added : (w : ℕ) → (write_of out (length s) FieldKind.Word (word_bytes w)).answer ≡ Ok end
      → sheet_of (take end (write_of out (length s) FieldKind.Word (word_bytes w)).buffer)
      ≡ Fields (fs ++ (record { place = length s; depth = 1; kind = FieldKind.Word; content = word_bytes w } ∷ []))
  word_added w done = field_added FieldKind.Word (word_bytes w) [] refl refl done

  pub figure_added : (label : ℕ) (m : ℤ) → (write_of out (length s) FieldKind.Figure (figure_bytes label m)).answer ≡ Ok end
      → sheet_of (take end (write_of out (length s) FieldKind.Figure (figure_bytes label m)).buffer)
      ≡ Fields (fs ++ (record { place = length s; depth = 1; kind = FieldKind.Figure; content = figure_bytes label m } ∷ []))
  figure_added label m done = field_added FieldKind.Figure (figure_bytes label m) [] refl refl done

  pub note_added : (text : List ℕ) → (write_of out (length s) FieldKind.Note text).answer ≡ Ok end
      → sheet_of (take end (write_of out (length s) FieldKind.Note text).buffer)
      ≡ Fields (fs ++ (record { place = length s; depth = 1; kind = FieldKind.Note; content = text } ∷ []))
  note_added text done = field_added FieldKind.Note text [] refl refl done

  -- a group that was written has a legal run, whose fields follow the group's with their places in the sheet
  pub group_added : (run : List ℕ) → (group_of out (length s) run).answer ≡ Ok end
      → (gs : List Field) × (inside_of run ≡ Fields gs)
      × (sheet_of (take end (group_of out (length s) run).buffer)
      ≡ Fields (fs ++ (record { place = length s; depth = 1; kind = FieldKind.Group; content = run } ∷ map (moved_field (length s + 3)) gs)))
  group_added run done =
      let g = group_written out (length s) run end done in
      let done' : (write_of out (length s) FieldKind.Group run).answer ≡ Ok end = ap (λ (w : Write). w.answer) (sym g.2) ∙ done in (
        g.0,
        g.1,
        ap (λ (w : Write). sheet_of (take end w.buffer)) g.2
            ∙ field_added FieldKind.Group run (map (moved_field (length s + 3)) g.0) refl ((inside-moved s out fs end legal stands) run g.0 g.1) done',
      )
