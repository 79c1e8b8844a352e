-- The same run at another offset: the same fields with their places moved, or the same refusal with its offset moved.
-- Assumes nothing.
use Rattle.std.specs.Prelude.{◌≡◌, refl, map, ℕ, ◌+◌}
use Rattle.std.proofs.Common.{ap}
use Rattle.std.proofs.lemmas.List.{map-append}
use Rattle.fields.specs.Run.{Field, Scan, Fields, Refused, ◌and_then◌}

-- a field whose tag stands m bytes further on
abbrev pub moved_field : ℕ → Field → Field
moved_field m f = record { place = m + f.place; depth = f.depth; kind = f.kind; content = f.content }

-- a scan of bytes that stand m bytes further on
abbrev pub moved : ℕ → Scan → Scan
moved m (Fields fs) = Fields (map (moved_field m) fs)
moved m (Refused f p) = Refused f (m + p)

pub moved_both : (m : ℕ) (x y : Scan) → moved m (x and_then y) ≡ moved m x and_then moved m y
moved_both m (Fields fs) (Fields gs) = ap Fields (map-append (moved_field m) fs gs)
moved_both m (Fields fs) (Refused f p) = refl
moved_both m (Refused f p) y = refl
