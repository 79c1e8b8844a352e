-- The part of a sheet up to an end: where the sheet is shorter, and that a field that stands in it ends within it, with its content.
-- Assumes nothing.
use Rattle.std.specs.Prelude.{◌≡◌, List, ℕ, ◌+◌, ◌-◌, ◌≤◌, min, length, take, drop, Some, Ok}
use Rattle.std.proofs.Common.{sym, ap, ◌∙◌, arith, length-take, length-drop, take-take, drop-drop}
use Rattle.fields.specs.declared.FieldKind.{FieldKind}
use Rattle.fields.specs.Start.{start_of}
use Rattle.fields.proofs.Laws.{whole-field}
use Rattle.walk.specs.WithinLemmas.{drop-take, Within}

pub within : (d p e : ℕ) (s : List ℕ) (k : FieldKind) (n : ℕ) → start_of d (drop p (take e s)) ≡ Ok (Some (k, n)) → Within s p e n
within d p e s k n h =
    let room : 3 + n ≤ length (drop p (take e s)) = (whole-field d (drop p (take e s)) k n h).room in
    let left : length (drop p (take e s)) ≡ length (take e s) - p = length-drop p (take e s) in
    let part : length (take e s) ≡ min e (length s) = length-take e s in
    let inPart : p + 3 ≤ length (take e s) = omega arith in
    let near : p + 3 + n ≤ e = omega arith in
    record {
      enclosed = near;
      in_sheet = omega arith;
      content =
          ap (take n) (drop-drop 3 p (take e s))
          ∙ sym (drop-take (p + 3) n (take e s) inPart)
          ∙ ap (drop (p + 3)) (take-take (p + 3 + n) e s near);
    }
