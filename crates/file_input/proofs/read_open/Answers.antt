use Rattle.std.proofs.Common.{rules, take, length-take-le}
use Rattle.standard_input.specs.Input.{taken}
use Rattle.file_input.proofs.read_open.Goals as goal

pub loop-done-preserved : goal.loop-done-preserved
loop-done-preserved g c =
    let front = length-take-le c.loop-done.done c.loop-done.buffer (search rules) in
    (search rules, search rules, taken _ _ _ c.loop-done.done c.in_ok-count.count (take c.loop-done.done c.loop-done.buffer) c.read_once.new.buffer _ front (search rules) c.loop-done.invariant.2 c.in_ok-count.ensures.bytes.0)
