-- The bytes that are moved stand at the start (proofs/Moving.antt).
use native.Mathlib.Omega.{arith}
use Rattle.explain.proofs.Moving.{moved}
use Rattle.explain.proofs.keep_begun.Goals as goal

pub returns-clause-buffer_after : goal.returns-clause-buffer_after
returns-clause-buffer_after c =
    moved c.args.buffer.now c.copy_within.new.self c.args.from c.args.filled c.min-length.result (omega arith) (omega arith) (omega arith) c.copy_within.ensures.after
