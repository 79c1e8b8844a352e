-- The text on its way: what is written so far and the lines of the fields ahead make up the sheet's (walk/specs/Fold.antt).
-- Assumes nothing.
use Rattle.std.specs.Prelude.{◌≡◌, List, [], ◌++◌, ℕ, ◌+◌, ◌-◌, ◌≤◌, length, take, drop, Result, Some, Ok}
use Rattle.std.proofs.Common.{sym, ap, ap₂, ◌∙◌, append_assoc, arith, length-drop, length-take-le}
use Rattle.fields.specs.declared.FieldKind.{FieldKind}
use Rattle.fields.specs.Run.{Scan, Fields, Refused}
use Rattle.walk.specs.declared.Position.{Position}
use Rattle.refusals.specs.declared.Refusal.{Refusal}
use Rattle.walk.specs.declared.FieldAt.{FieldAt}
use Rattle.walk.specs.declared.WalkStep.{WalkStep}
use Rattle.walk.specs.Step.{start_walk, step_of}
use Rattle.walk.specs.Rest.{field_of}
use Rattle.walk.specs.Fold.{Loop}
use Rattle.walk.proofs.Fold.{loop_starts, loop_goes}
use Rattle.text.specs.Ascii.{ascii}
use Rattle.text.specs.Writing.{last, Writes, empty}
use Rattle.text.proofs.Writing.{joined}
use Rattle.lines.specs.Lines.{refusal_line}
use Rattle.field_texts.specs.FieldTexts.{content_text}
use Rattle.field_lines.specs.FieldLines.{head_text, line_of, lines_of}

-- a text with that of what is ahead
abbrev pub listed : List ℕ → Scan → List ℕ
listed done (Fields fs) = done ++ lines_of fs
listed done (Refused f p) = done ++ refusal_line f p

-- a loop that has stored its text
pub record Going (s out₀ out : List ℕ) (w : Result Position (Refusal × ℕ)) (at : ℕ) : Type 0 where
  pub done : List ℕ
  pub loop : Loop listed s [] w done
  pub written : Writes out₀ 0 done out at

pub going_starts : (s out : List ℕ) (w : Result Position (Refusal × ℕ)) → length out ≤ last → w ≡ start_walk s → Going s out out w 0
going_starts s out w short e = record { done = []; loop = loop_starts e; written = empty short (omega arith) }

module _ (s out₀ out : List ℕ) (w : Result Position (Refusal × ℕ)) (at : ℕ) (r : WalkStep) (g : Going s out₀ out w at) (found : r ≡ step_of s w) where
  -- a line takes it to the next walk
  pub going_on : (a : FieldAt) (out' : List ℕ) (n : ℕ) → r.given ≡ Ok (Some a) → Writes out at (line_of (field_of s a)) out' n → Going s out₀ out' r.next n
  going_on a out' n told h =
      let line : List ℕ = line_of (field_of s a) in
      record {
        done = g.done ++ line;
        loop = loop_goes g.loop found (g.done ++ line) told (λ fs. sym (append_assoc g.done line (lines_of fs)));
        written = joined g.written h;
      }

-- the line of a field that a walk gives, by the part of the sheet that is its content
pub part_line : (s : List ℕ) (a : FieldAt) (k : FieldKind) → a.kind ≡ k → a.place + 3 + a.length ≤ length s
    → head_text a.place a.depth a.kind a.length ++ content_text k (take (a.place + 3 + a.length - (a.place + 3)) (drop (a.place + 3) s)) ++ ascii "\n" ≡ line_of (field_of s a)
part_line s a k told h =
    let c : List ℕ = take a.length (drop (a.place + 3) s) in
    let size : a.place + 3 + a.length - (a.place + 3) ≡ a.length = omega arith in
    let left : length (drop (a.place + 3) s) ≡ length s - (a.place + 3) = length-drop (a.place + 3) s in
    let long : length (take a.length (drop (a.place + 3) s)) ≡ a.length = length-take-le a.length (drop (a.place + 3) s) (omega arith) in
    ap (λ (n : ℕ). head_text a.place a.depth a.kind a.length ++ content_text k (take n (drop (a.place + 3) s)) ++ ascii "\n") size
    ∙ ap₂ (λ (n : ℕ) (j : FieldKind). head_text a.place a.depth a.kind n ++ content_text j c ++ ascii "\n") (sym long) (sym told)
