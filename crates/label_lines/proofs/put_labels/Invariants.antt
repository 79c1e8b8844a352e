-- What has been passed of the bytes has been written.
use Prim.Native.Nat.{◌≤◌, ◌-◌}
use lib.ListN.{take}
use Rattle.text.specs.Writing.{Writes}
use Rattle.label_texts.specs.LabelTexts.{label_lines, shown_bytes}
use Rattle.label_lines.proofs.put_labels.Given as goal

abbrev pub invariant-loop-place : goal.invariant-loop-place
invariant-loop-place l = (l.place ≤ l.count) × Writes l.initial.out l.at (label_lines (take l.place (shown_bytes l.all))) l.out l.next

abbrev pub decreases-loop-place : goal.decreases-loop-place
decreases-loop-place l = l.count - l.place
