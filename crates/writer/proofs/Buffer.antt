-- What stands in the buffer after writing a field: its bytes at the place, every other byte as before, and nothing new on a refusal.
-- Assumes nothing.
use Rattle.std.specs.Prelude.{◌≡◌, List, ◌++◌, ◌⊎◌, ℕ, ◌+◌, ◌-◌, ◌^◌, ◌<◌, ◌≤◌, ℤ, length, get_or, take, drop, Result, Ok}
use Rattle.std.proofs.Common.{sym, ap, ◌∙◌, append_assoc, inl, inr, arith, length-append, length-drop, take_at, drop_at, drop-drop, get_or-append-add, get_or-take, get_or-drop}
use Rattle.std.proofs.Math.ListN.{get_or-append}
use Rattle.std.proofs.Math.Seq.{take-append_seam}
use Rattle.fields.specs.declared.FieldKind.{FieldKind}
use Rattle.fields.specs.Start.{field_bytes}
use Rattle.bits.specs.Complement.{Holds}
use Rattle.refusals.specs.declared.Refusal.{Refusal}
use Rattle.contents.specs.Contents.{word_bytes, figure_bytes, word_in, figure_in}
use Rattle.contents.proofs.Contents.{word_read, figure_read}
use Rattle.writer.specs.Write.{buffer_of, write_of}
use Rattle.writer.specs.Buffer.{bounds, after, before_length, front_length}

module _ (out : List ℕ) (place : ℕ) (k : FieldKind) (c : List ℕ) (end : ℕ) (done : (write_of out place k c).answer ≡ Ok end) where
  is_after : (write_of out place k c).buffer ≡ (after out place k c end done)
  is_after = ap (λ (w : Result ℕ (Refusal × ℕ)). buffer_of w out place (field_bytes k c)) done

  -- the buffer up to the field's end
  pub up_to_end : take end (write_of out place k c).buffer ≡ take place out ++ field_bytes k c
  up_to_end = ap (take end) is_after ∙ take_at (take place out ++ field_bytes k c) (drop end out) end (front_length out place k c end done)

  -- the buffer keeps its length
  pub same_length : length (write_of out place k c).buffer ≡ length out
  same_length =
      let f : length (take place out ++ field_bytes k c) ≡ end = (front_length out place k c end done) in
      let d : length (drop end out) ≡ length out - end = length-drop end out in
      ap length is_after ∙ length-append (take place out ++ field_bytes k c) (drop end out) ∙ omega (arith, (bounds out place k c end done).space, (bounds out place k c end done).at)

  -- a byte before the field or after it is as it stood
  pub outside : (i : ℕ) → (i < place) ⊎ (end ≤ i) → get_or (write_of out place k c).buffer i 0 ≡ get_or out i 0
  outside i (inl h) =
      let f : length (take place out ++ field_bytes k c) ≡ end = (front_length out place k c end done) in
      let p : length (take place out) ≡ place = (before_length out place k c end done) in
      ap (λ (l : List ℕ). get_or l i 0) is_after
      ∙ get_or-append (take place out ++ field_bytes k c) (drop end out) 0 i (omega (arith, (bounds out place k c end done).at))
      ∙ get_or-append (take place out) (field_bytes k c) 0 i (omega arith)
      ∙ get_or-take place out i 0 h
  outside i (inr h) =
      let f : length (take place out ++ field_bytes k c) ≡ end = (front_length out place k c end done) in
      let j : ℕ = i - end in
      let at : i ≡ length (take place out ++ field_bytes k c) + j = omega arith in
      ap (λ (l : List ℕ). get_or l i 0) is_after
      ∙ ap (λ (n : ℕ). get_or (after out place k c end done) n 0) at
      ∙ get_or-append-add (take place out ++ field_bytes k c) (drop end out) j 0
      ∙ get_or-drop end out j 0
      ∙ ap (λ (n : ℕ). get_or out n 0) (omega arith)

  -- the content stands after the header's three bytes
  pub content_stands : take (length c) (drop (place + 3) (write_of out place k c).buffer) ≡ c
  content_stands =
      ap (λ (l : List ℕ). take (length c) (drop (place + 3) l)) (is_after ∙ append_assoc (take place out) (field_bytes k c) (drop end out))
      ∙ ap (take (length c))
      (sym (drop-drop 3 place (take place out ++ (field_bytes k c ++ drop end out)))
      ∙ ap (drop 3) (drop_at (take place out) (field_bytes k c ++ drop end out) place (before_length out place k c end done)))
      ∙ take-append_seam c (drop end out)

-- a word that was written is read back
pub word_back : (out : List ℕ) (place w end : ℕ) → w < 2 ^ 32 → (write_of out place FieldKind.Word (word_bytes w)).answer ≡ Ok end
    → word_in (take 4 (drop (place + 3) (write_of out place FieldKind.Word (word_bytes w)).buffer)) ≡ Ok w
word_back out place w end h done = ap word_in (content_stands out place FieldKind.Word (word_bytes w) end done) ∙ word_read w h

-- a figure that was written is read back
pub figure_back : (out : List ℕ) (place label : ℕ) (m : ℤ) (end : ℕ) → Holds 64 m
    → (write_of out place FieldKind.Figure (figure_bytes label m)).answer ≡ Ok end
    → figure_in (take 9 (drop (place + 3) (write_of out place FieldKind.Figure (figure_bytes label m)).buffer)) ≡ Ok (label, m)
figure_back out place label m end h done = ap figure_in (content_stands out place FieldKind.Figure (figure_bytes label m) end done) ∙ figure_read label m h
