-- Document 01's sentences on the writer, each beside what states it.
-- Assumes nothing.
use Rattle.std.specs.Prelude.{length}
use Rattle.writer.proofs.Added.{word_added, figure_added, note_added, group_added}
use Rattle.writer.specs.Answers.{ends}
use Rattle.writer.specs.Buffer.{unchanged, group_written, group_unchanged}
use Rattle.writer.proofs.Buffer.{up_to_end, same_length, outside}
use Rattle.writer.specs.Write.{write_of, group_of}
use Rattle.demands.proofs.EntryRulesLemmas.{write_follows, group_follows}
use Rattle.demands.specs.Writer.{Writer}

pub writer : Writer write_of group_of
writer = record {
  order = λ out place k c. write_follows (length out) place (length c);
  field_end = λ out place k c end done. (ends (length out) place (length c) end done).at;
  field_stands = up_to_end;
  others_stay = outside;
  length_stays = same_length;
  refused_stays = unchanged;
  group_order = group_follows;
  group_is_field = group_written;
  group_refused_stays = group_unchanged;
  word-at_end = word_added;
  figure_at_end = figure_added;
  note-at_end = note_added;
  group_at_end = group_added;
}
