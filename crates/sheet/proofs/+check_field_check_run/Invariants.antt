-- The measures: for a run twice its bytes and one, for a field twice the bytes from its place on; a group's content is shorter by the three bytes of its header.
-- The loop's invariant: from the place on the check says what it says of the whole run.
use Rattle.std.proofs.Common.{◌≡◌, ◌+◌, ◌-◌, ◌≤◌, length, ◌*◌}
use Rattle.fields.specs.Run.{run_of}
use Rattle.sheet.specs.Checked.{checked_of}
use Rattle.sheet.specs.StepsLemmas.{rest_of}
use Rattle.sheet.proofs.+check_field_check_run.Given as goal

abbrev pub decreases-check_field : goal.decreases-check_field
decreases-check_field l = 2 * (length l.run.now - l.at)

abbrev pub decreases-check_run : goal.decreases-check_run
decreases-check_run l = 2 * length l.run.now + 1

abbrev pub invariant-check_run-loop-next : goal.invariant-check_run-loop-next
invariant-check_run-loop-next l = record {
  inside : l.at ≤ length l.run;
  same : rest_of (4 - l.depths) l.offset l.run l.at ≡ checked_of (run_of (4 - l.depths) l.offset l.run);
}

abbrev pub decreases-check_run-loop-next : goal.decreases-check_run-loop-next
decreases-check_run-loop-next l = length l.run - l.at
