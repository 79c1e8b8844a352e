-- The part of the sheet up to the lesser end is the part up to the end, and a field that stands in it ends within the sheet.
use mathlib.Core.Path.{sym, ap, ◌∙◌}
use mathlib.Core.List.{List}
use Prim.Native.Nat.{ℕ}
use native.Mathlib.Omega.{arith}
use lib.ListN.{take, drop}
use Rattle.fields.specs.Start.{start_of}
use Rattle.walk.specs.Step.{given_at}
use Rattle.walk.specs.WithinLemmas.{take_min}
use Rattle.walk.proofs.WithinLemmas.{within}
use Rattle.walker.proofs.step_at.Goals as goal

pub given_at-requires : goal.given_at-requires
given_at-requires c k n e =
    let s = c.args.sheet.now in
    let in_sheet = (within c.args.level.depth c.args.position.place c.min-end.result s k n (sym c.start_at.ensures ∙ e)).in_sheet in
    omega arith

pub returns : goal.returns
returns c =
    let s = c.args.sheet.now in
    let w = c.args.position in
    let l = c.args.level in
    c.given_at.ensures
    ∙ ap (given_at w l.depth)
    (c.start_at.ensures
    ∙ ap (λ (run : List ℕ). start_of l.depth (drop w.place run)) (ap (λ (n : ℕ). take n s) c.min-end.ensures ∙ take_min l.end s))
