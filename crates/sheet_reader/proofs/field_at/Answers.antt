-- What a walk from the start gives after so many steps is the field with that index (`walk_gives_at`).
use Rattle.std.specs.Prelude.{Result, Option}
use Rattle.std.proofs.Common.{◌≡◌, ℕ, List, ap₂, ◌∙◌}
use Rattle.std.specs.Borrow.{Bor}
use Rattle.fields.specs.Run.{sheet_of}
use Rattle.walk.specs.declared.Position.{Position}
use Rattle.refusals.specs.declared.Refusal.{Refusal}
use Rattle.walk.specs.declared.FieldAt.{FieldAt}
use Rattle.walk.specs.Step.{start_walk, step_of}
use Rattle.walk.specs.Walked.{after}
use Rattle.reader.specs.declared.Reader.{Reader}
use Rattle.reader.specs.Fields.{field_at}
use Rattle.reader.proofs.Fields.{walk_gives_at}
use Rattle.sheet_reader.proofs.field_at.Goals as goal

together : (s : Bor (List ℕ)) (d r : Reader) (n : ℕ) (t : Result (Option FieldAt) (Refusal × ℕ)) → (d.sheet ≡ s) × (d.at ≡ start_walk s.now) → (r.sheet ≡ d.sheet) × (r.at ≡ after n d.sheet.now d.at)
    → t ≡ (step_of r.sheet.now r.at).given → t ≡ field_at (sheet_of s.now) n
together s d r n t e e' e'' =
    e''
    ∙ ap₂ (λ (x : Bor (List ℕ)) (w : Result Position (Refusal × ℕ)). (step_of x.now w).given) (e'.0 ∙ e.0) (e'.1 ∙ ap₂ (λ (x : Bor (List ℕ)) (w : Result Position (Refusal × ℕ)). after n x.now w) e.0 e.1)
    ∙ walk_gives_at s.now n

pub returns : goal.returns
returns c = together c.args.sheet c.new.result c.skip.result c.args.index c.next.result c.new.ensures c.skip.ensures c.next.ensures
