-- One run after another: nothing before or after it changes a run, and three are joined in either grouping.
-- Assumes nothing.
use Rattle.std.specs.Prelude.{◌≡◌, refl, []}
use Rattle.std.proofs.Common.{ap, append-nil, append_assoc}
use Rattle.fields.specs.Run.{Scan, Fields, Refused, ◌and_then◌}

pub nothing-first : (r : Scan) → Fields [] and_then r ≡ r
nothing-first (Fields fs) = refl
nothing-first (Refused f p) = refl

pub nothing-after : (r : Scan) → r and_then Fields [] ≡ r
nothing-after (Fields fs) = ap Fields (append-nil fs)
nothing-after (Refused f p) = refl

pub regroup : (a b c : Scan) → (a and_then b) and_then c ≡ a and_then (b and_then c)
regroup (Fields fs) (Fields gs) (Fields hs) = ap Fields (append_assoc fs gs hs)
regroup (Fields fs) (Fields gs) (Refused f p) = refl
regroup (Fields fs) (Refused f p) c = refl
regroup (Refused f p) b c = refl
