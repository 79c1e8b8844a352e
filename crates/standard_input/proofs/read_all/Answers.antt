use Rattle.std.proofs.Common.{rules, take, length-take-le}
use Rattle.standard_input.specs.Input.{taken}
use Rattle.standard_input.proofs.read_all.Goals as goal

pub loop-done-preserved-in-Bytes : goal.loop-done-preserved-in-Bytes
loop-done-preserved-in-Bytes g c =
    let front = length-take-le c.loop-done.done c.loop-done.buffer (search rules) in
    (search rules, search rules, taken _ _ _ c.loop-done.done c.in-Bytes.count (take c.loop-done.done c.loop-done.buffer) c.read_chunk.new.buffer _ front (search rules) c.loop-done.invariant.2 c.in-Bytes.ensures.bytes)
