-- What the proofs of `Theorems` cite: the parts of a line are printable ASCII, and no line end is.
-- Assumes nothing.
use Rattle.std.specs.Prelude.{◌≡◌, refl, Bool, cond, List, [], ◌∷◌, ◌++◌, ℕ, eqb, length}
use Rattle.std.proofs.Common.{ap, arith, ne_eqb}
use Rattle.fields.specs.Run.{Field}
use Rattle.field_texts.specs.FieldTexts.{content_text}
use Rattle.field_texts.specs.Reading.{Printable}
use Rattle.listing_laws.specs.Count.{line_ends}
use Rattle.field_lines.specs.FieldLines.{head_text}

-- a line without its line end
abbrev pub shown : Field → List ℕ
shown f = head_text f.place f.depth f.kind (length f.content) ++ content_text f.kind f.content

-- no line end is printable
pub ends_behind : (t r : List ℕ) → Printable t → line_ends (t ++ r) ≡ line_ends r
ends_behind [] r h = refl
ends_behind (c ∷ t) r h =
    let here : ◌≡◌ {A = ℕ} (cond (eqb c 10) 1 0) 0 = ap (λ (b : Bool). cond {A = ℕ} b 1 0) (ne_eqb c 10 (λ e. omega (arith, h.0.0))) in
    let rest : line_ends (t ++ r) ≡ line_ends r = ends_behind t r h.1 in
    omega arith
