-- Document 01's sentences on the sheet, each beside what states it.
-- Assumes nothing.
use Rattle.std.specs.Prelude.{refl, []}
use Rattle.std.proofs.Common.{eqb-true, eq-eqb, lit≤, lit<}
use Rattle.contents.proofs.Contents.{word_read, word-only, figure_read, figure_only}
use Rattle.fields.specs.declared.FieldKind.{FieldKind}
use Rattle.fields.specs.Grammar.{no_more, leaf, group, no_byte, no_more_allowed, leaf_allowed, group_allowed}
use Rattle.fields.proofs.Grammar.{sheet_written, written_sheet}
use Rattle.fields.proofs.Judged.{sheet_order}
use Rattle.fields.proofs.Judged as judged
use Rattle.fields.specs.Limits as limits
use Rattle.fields.proofs.Limits as limits_proofs
use Rattle.fields.specs.Run.{sheet_of}
use Rattle.demands.specs.Sheet.{Sheet}

pub sheet : Sheet sheet_of
sheet = record {
  written = sheet_written;
  legal = written_sheet;
  tags = (refl, refl, refl, refl);
  lengths = λ n. ((eqb-true n 4, eq-eqb n 4), (eqb-true n 9, eq-eqb n 9), refl);
  word_in_lem = word_read;
  word_bytes_lem = word-only;
  figure_in_lem = figure_read;
  figure_bytes_lem = figure_only;
  empty_sheet = limits.empty_sheet;
  empty_group = sheet_written (group no_more no_more) (group_allowed {us = no_more} {ts = no_more} (lit< tt) (lit< tt) no_more_allowed no_more_allowed) (lit≤ tt);
  empty_note = sheet_written (leaf FieldKind.Note [] no_more) (leaf_allowed {k = FieldKind.Note} {c = []} {ts = no_more} refl refl (lit< tt) no_byte no_more_allowed) (lit≤ tt);
  order = sheet_order;
  one_refusal = λ s f g q r a b. judged.one_refusal a b;
  offset = limits_proofs.offset-inside;
}
