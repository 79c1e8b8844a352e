-- Document 01's sentences on the listing, each beside what states it.
-- Assumes nothing.
use Rattle.std.specs.Prelude.{Result}
use Rattle.std.proofs.Common.{ap}
use Rattle.labels.specs.Label.{label_of}
use Rattle.records.specs.declared.Record.{Record}
use Rattle.refusals.specs.declared.Refusal.{Refusal}
use Rattle.agreements.specs.Agreement.{agrees_of}
use Rattle.columns.specs.Theorems.{dash_exactly}
use Rattle.verdicts.proofs.Theorems.{comparable_exactly}
use Rattle.verdicts.specs.Verdicts.{is_comparable}
use Rattle.word_lines.specs.WordLines.{decoded_line, word_line}
use Rattle.listing.specs.Listing.{text_of}
use Rattle.listing_laws.proofs.Count.{one_line_each}
use Rattle.listing_laws.proofs.Groups.{text_by_groups}
use Rattle.demands.specs.Listing.{Listing, bad_line, agrees_exactly, figure_unmatched}

pub listing : Listing text_of word_line
listing = record {
  bad_sheet = bad_line;
  accepted-word = λ w r e. ap (λ (d : Result Record Refusal). decoded_line d (label_of w)) e;
  refused-word = λ w f e. ap (λ (d : Result Record Refusal). decoded_line d (label_of w)) e;
  lines = one_line_each;
  dash = dash_exactly;
  by_groups = text_by_groups;
  unmatched = figure_unmatched;
  agrees = λ w label m c. agrees_exactly (is_comparable w label) (agrees_of w m) ((comparable_exactly w label).1 c);
}
