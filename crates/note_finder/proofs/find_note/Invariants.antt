-- The walk goes on until the note, the end or the refusal decides (`Search`); each step leaves fewer bytes.
use Rattle.walk.specs.Stands.{left}
use Rattle.note_finder.proofs.Search.{Seeking}
use Rattle.note_finder.proofs.find_note.Given as goal

abbrev pub invariant-loop-field : goal.invariant-loop-field
invariant-loop-field l = Seeking l.sheet l.place l.at

abbrev pub decreases-loop-field : goal.decreases-loop-field
decreases-loop-field l = left l.sheet l.at
