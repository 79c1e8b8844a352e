-- Document 01's sentences on the writer, each beside what states it.
-- Assumes nothing.
use Rattle.std.specs.Prelude.{◌≡◌, List, [], ◌∷◌, ◌++◌, map, ◌⊎◌, ℕ, ◌+◌, ◌≤◌, ◌<◌, ℤ, length, get_or, take, Ok, Err}
use Rattle.refusals.specs.Order.{Follows}
use Rattle.refusals.specs.declared.Refusal.{Refusal}
use Rattle.contents.specs.Contents.{word_bytes, figure_bytes}
use Rattle.fields.specs.declared.FieldKind.{FieldKind}
use Rattle.fields.specs.Grammar.{Bytes}
use Rattle.fields.specs.Moved.{moved_field}
use Rattle.fields.specs.Run.{Field, Fields, sheet_of, inside_of}
use Rattle.fields.specs.Start.{field_bytes}
use Rattle.writer.specs.Write.{Write}
use Rattle.demands.specs.EntryRules.{write_rules, group_rules, written}

-- `write out place kind content` and `group out place run` are what writing a field gives: the answer, which is the field's end or a refusal, and the whole buffer afterwards.
pub record Writer (write : List ℕ → ℕ → FieldKind → List ℕ → Write) (group : List ℕ → ℕ → List ℕ → Write) : Type 0 where
  -- "The writer adds one field at a given place: 15 if the end would pass 32,768, else 13 if the buffer is too short or the place lies past it."
  pub order : (out : List ℕ) (place : ℕ) (k : FieldKind) (c : List ℕ) → Follows written (write_rules (length out) place (length c)) (write out place k c).answer
  pub field_end : (out : List ℕ) (place : ℕ) (k : FieldKind) (c : List ℕ) (end : ℕ) → (write out place k c).answer ≡ Ok end → end ≡ place + 3 + length c
  pub field_stands : (out : List ℕ) (place : ℕ) (k : FieldKind) (c : List ℕ) (end : ℕ) → (write out place k c).answer ≡ Ok end
      → take end (write out place k c).buffer ≡ take place out ++ field_bytes k c
  -- "Only the field's bytes change." And a refusal changes none.
  pub others_stay : (out : List ℕ) (place : ℕ) (k : FieldKind) (c : List ℕ) (end : ℕ) → (write out place k c).answer ≡ Ok end
      → (i : ℕ) → (i < place) ⊎ (end ≤ i) → get_or (write out place k c).buffer i 0 ≡ get_or out i 0
  pub length_stays : (out : List ℕ) (place : ℕ) (k : FieldKind) (c : List ℕ) (end : ℕ) → (write out place k c).answer ≡ Ok end
      → length (write out place k c).buffer ≡ length out
  pub refused_stays : (out : List ℕ) (place : ℕ) (k : FieldKind) (c : List ℕ) (f : Refusal) (p : ℕ) → (write out place k c).answer ≡ Err (f, p) → (write out place k c).buffer ≡ out
  -- "A group is made from a run of bytes checked first as the inside of a top group: 9 to 12, with the offset in the run, come before 15 and 13."
  pub group_order : (out : List ℕ) (place : ℕ) (run : List ℕ) → Bytes run → Follows written (group_rules (length out) place run) (group out place run).answer
  pub group_is_field : (out : List ℕ) (place : ℕ) (run : List ℕ) (end : ℕ) → (group out place run).answer ≡ Ok end
      → (gs : List Field) × (inside_of run ≡ Fields gs) × (group out place run ≡ write out place FieldKind.Group run)
  pub group_refused_stays : (out : List ℕ) (place : ℕ) (run : List ℕ) (f : Refusal) (p : ℕ) → (group out place run).answer ≡ Err (f, p) → (group out place run).buffer ≡ out
  -- "A field added at the end of a legal sheet leaves a legal sheet." Its fields are the old ones, then the new one, and for a group its inside, with places that count in the sheet.
  pub word-at_end : (s out : List ℕ) (fs : List Field) (end : ℕ) → sheet_of s ≡ Fields fs → take (length s) out ≡ s → (w : ℕ)
      → (write out (length s) FieldKind.Word (word_bytes w)).answer ≡ Ok end
      → sheet_of (take end (write out (length s) FieldKind.Word (word_bytes w)).buffer) ≡ Fields (fs ++ (record { place = length s; depth = 1; kind = FieldKind.Word; content = word_bytes w } ∷ []))
  pub figure_at_end : (s out : List ℕ) (fs : List Field) (end : ℕ) → sheet_of s ≡ Fields fs → take (length s) out ≡ s → (label : ℕ) (m : ℤ)
      → (write out (length s) FieldKind.Figure (figure_bytes label m)).answer ≡ Ok end
      → sheet_of (take end (write out (length s) FieldKind.Figure (figure_bytes label m)).buffer)
      ≡ Fields (fs ++ (record { place = length s; depth = 1; kind = FieldKind.Figure; content = figure_bytes label m } ∷ []))
  pub note-at_end : (s out : List ℕ) (fs : List Field) (end : ℕ) → sheet_of s ≡ Fields fs → take (length s) out ≡ s → (text : List ℕ)
      → (write out (length s) FieldKind.Note text).answer ≡ Ok end
      → sheet_of (take end (write out (length s) FieldKind.Note text).buffer) ≡ Fields (fs ++ (record { place = length s; depth = 1; kind = FieldKind.Note; content = text } ∷ []))
  pub group_at_end : (s out : List ℕ) (fs : List Field) (end : ℕ) → sheet_of s ≡ Fields fs → take (length s) out ≡ s → (run : List ℕ)
      → (group out (length s) run).answer ≡ Ok end
      → (gs : List Field) × (inside_of run ≡ Fields gs)
      × (sheet_of (take end (group out (length s) run).buffer)
      ≡ Fields (fs ++ (record { place = length s; depth = 1; kind = FieldKind.Group; content = run } ∷ map (moved_field (length s + 3)) gs)))
