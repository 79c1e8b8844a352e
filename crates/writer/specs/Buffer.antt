-- What stands in the buffer after writing a field: its bytes at the place, every other byte as before, and nothing new on a refusal.
-- Assumes nothing.
use Rattle.std.specs.Prelude.{◌≡◌, refl, List, ◌++◌, ℕ, ◌+◌, ◌-◌, length, take, drop, Result, Ok, Err}
use Rattle.std.proofs.Common.{ap, ◌∙◌, arith, length-append, length-take-le}
use Rattle.refusals.specs.declared.Refusal.{Refusal}
use Rattle.fields.specs.declared.FieldKind.{FieldKind}
use Rattle.fields.specs.Start.{field_bytes}
use Rattle.fields.specs.Run.{Field, Scan, Fields, Refused, inside_of}
use Rattle.writer.specs.Write.{buffer_of, write_of, unless_refused, group_of}
use Rattle.writer.specs.Answers.{Ends, ends}

-- on a refusal the buffer is as it stood
pub unchanged : (out : List ℕ) (place : ℕ) (k : FieldKind) (c : List ℕ) (f : Refusal) (p : ℕ)
    → (write_of out place k c).answer ≡ Err (f, p) → (write_of out place k c).buffer ≡ out
unchanged out place k c f p e = ap (λ (w : Result ℕ (Refusal × ℕ)). buffer_of w out place (field_bytes k c)) e

module _ (out : List ℕ) (place : ℕ) (k : FieldKind) (c : List ℕ) (end : ℕ) (done : (write_of out place k c).answer ≡ Ok end) where
  abbrev pub bounds : Ends (length out) place (length c) end
  bounds = ends (length out) place (length c) end done

  abbrev pub after : List ℕ
  after = take place out ++ field_bytes k c ++ drop end out

  pub before_length : length (take place out) ≡ place
  before_length = length-take-le place out (omega (arith, bounds.space))

  pub front_length : length (take place out ++ field_bytes k c) ≡ end
  front_length =
      let p : length (take place out) ≡ place = before_length in
      length-append (take place out) (field_bytes k c) ∙ omega (arith, bounds.at)

-- a group that was written has a legal run, and is written as any field
pub group_written : (out : List ℕ) (place : ℕ) (run : List ℕ) (end : ℕ) → (group_of out place run).answer ≡ Ok end
    → (gs : List Field) × (inside_of run ≡ Fields gs) × (group_of out place run ≡ write_of out place FieldKind.Group run)
group_written out place run end done = by (inside_of run) refl done
  where
    by : (i : Scan) → inside_of run ≡ i → (unless_refused i out (write_of out place FieldKind.Group run)).answer ≡ Ok end
        → (gs : List Field) × (inside_of run ≡ Fields gs) × (unless_refused i out (write_of out place FieldKind.Group run) ≡ write_of out place FieldKind.Group run)
    by (Fields gs) e done = (gs, e, refl)
    by (Refused f p) e done = let z : ◌≡◌ {A = ℕ} 0 1 = cc in absurd (omega arith)

-- on any refusal of a group the buffer is as it stood
pub group_unchanged : (out : List ℕ) (place : ℕ) (run : List ℕ) (f : Refusal) (p : ℕ)
    → (group_of out place run).answer ≡ Err (f, p) → (group_of out place run).buffer ≡ out
group_unchanged out place run f p = by (inside_of run)
  where
    by : (i : Scan) → (unless_refused i out (write_of out place FieldKind.Group run)).answer ≡ Err (f, p)
        → (unless_refused i out (write_of out place FieldKind.Group run)).buffer ≡ out
    by (Fields gs) e = unchanged out place FieldKind.Group run f p e
    by (Refused g q) e = refl
