-- Demand 1: "Every entry point takes whatever number, word or sheet comes and ends. Bad input gets the refusal number of document 01, no record, and no byte written in a buffer we lent."
-- That each ends and asks for nothing is what the checker proves of every function: none of them has a `requires`. Stated here is which refusal each gives, by the definitions that stand in
-- their contracts: it is refused with f (at p) exactly when f is what the first broken rule of its list gives, and gives its answer exactly when none is broken. No answer does both.
-- Words are 32-bit numbers, and the bytes of a sheet are below 256.
-- Assumes nothing.
use Rattle.std.specs.Prelude.{length}
use Rattle.labels.proofs.Assignment.{document01}
use Rattle.pages.proofs.Theorems as page-theorems_proofs
use Rattle.encode.specs.Encode.{record_label}
use Rattle.chart.proofs.Points.{chart_order}
use Rattle.chart.proofs.Words.{word_order}
use Rattle.explanations.proofs.Theorems.{follows}
use Rattle.fields.proofs.RulesLemmas.{start_follows}
use Rattle.summaries.proofs.Theorems as summary-theorems_proofs
use Rattle.writer.specs.Buffer.{unchanged, group_unchanged}
use Rattle.demands.proofs.JudgementLemmas as judgement_proofs
use Rattle.demands.specs.EntryRulesLemmas.{figure_follows, figure_follows_as, word_in_follows, figure_in_follows, checked_follows, inside_follows, totals_follow, listed_follows}
use Rattle.demands.proofs.EntryRulesLemmas.{record_follows, record_follows_as, part_follows, take_follows, walk_follows, note_follows, write_follows, group_follows}
use Rattle.demands.proofs.TopFieldLemmas.{top_field_follows}
use Rattle.demands.specs.EntryPoints.{Demand1, listed_unchanged}

-- Demand 1 holds.
pub demand1 : Demand1
demand1 = record {
  word = judgement_proofs.word_order document01;
  word_as_lem = judgement_proofs.word_order;
  page = page-theorems_proofs.follows;
  page_untouched = page-theorems_proofs.untouched;
  «record» = λ r. record_follows (record_label document01 r) r;
  record_as = record_follows_as;
  figure = figure_follows;
  figure_as = figure_follows_as;
  explained = follows document01;
  chart = word_order;
  chart_records = chart_order;
  part = part_follows;
  take = take_follows;
  word-content = word_in_follows;
  figure_content = figure_in_follows;
  sheet = checked_follows;
  inside = inside_follows;
  top_field = top_field_follows;
  field = start_follows;
  walk = walk_follows;
  note = note_follows;
  totals = totals_follow;
  summary = summary-theorems_proofs.follows;
  write = λ out place k c. write_follows (length out) place (length c);
  write_untouched = unchanged;
  group = group_follows;
  group_untouched = group_unchanged;
  list = listed_follows;
  list_untouched = listed_unchanged;
}
