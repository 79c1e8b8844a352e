-- Document 01's sentence on the reader, clause by clause, beside what states it.
-- Assumes nothing.
use Rattle.walk.proofs.Walked.{walk_gives, walk_ends, walk_refused, content_in_sheet}
use Rattle.reader.proofs.Fields.{walk_gives_at}
use Rattle.demands.specs.Reader.{Reader}

pub reader : Reader
reader = record {
  refused = walk_refused;
  fields = walk_gives;
  content = content_in_sheet;
  end = walk_ends;
  by_index = walk_gives_at;
}
