-- The last arm fails every test below 15, so its hash is 15.
use mathlib.Core.Path.{◌≡◌, sym, ap}
use Prim.Native.Nat.{◌%◌}
use native.Mathlib.Omega.{arith}
use Rattle.word_kinds.specs.HashLemmas.{hash, hashed_at}
use Rattle.word_kinds.proofs.candidate.Goals as goal

pub returns-in_default : goal.returns-in_default
returns-in_default c =
    let last : hash (c.args.word % 256) ≡ 15 = omega arith in
    ap hashed_at (sym last)
