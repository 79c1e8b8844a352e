-- Document 01's sentences on notes, each beside what states it.
-- Assumes nothing.
use Rattle.std.proofs.Common.{ap}
use Rattle.fields.specs.Run.{sheet_of}
use Rattle.notes.specs.Note.{note_of, text_of}
use Rattle.notes.specs.Place.{note_by_place}
use Rattle.notes.proofs.Place.{text_lies}
use Rattle.demands.proofs.EntryRulesLemmas.{note_follows}
use Rattle.demands.specs.Notes.{Notes}

pub notes : Notes (λ s place. note_of (sheet_of s) place)
notes = record {
  order = note_follows;
  by_place = note_by_place;
  empty = λ s place f p e. ap text_of e;
  own_bytes_lem = text_lies;
}
