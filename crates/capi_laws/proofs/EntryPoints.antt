-- Demand 1 from C. Each function that C calls answers with the numbers of the definition that stands in its contract (crates/capi/src/lib.rt). Stated here is what they tell: the number in
-- `refusal` is 0 exactly where the definition of the library's function accepts, else that of its refusal; beside a refusal all else is zero but an offset, and a buffer is as it was.
-- Assumes nothing.
use Rattle.std.specs.Prelude.{refl, Bool, true, false, cond, ℤ, Option, Some, None}
use Rattle.std.proofs.Common.{sym, ap, subst, ◌∙◌}
use Rattle.refusals.specs.Numbers.{number_of}
use Rattle.refusals.specs.declared.Refusal.{Refusal}
use Rattle.labels.proofs.Assignment.{document01}
use Rattle.decode.specs.Decode.{decode_of}
use Rattle.pages.specs.Page.{page_of}
use Rattle.encode.specs.Encode.{encode_of}
use Rattle.explanations.specs.Explanations.{explained_of}
use Rattle.flat_explanations.proofs.Explained.{reason_tells}
use Rattle.chart.specs.Words.{chart_point}
use Rattle.quantities.specs.Nearest.{millionths_of}
use Rattle.figures.specs.Coding.{quantity_at, coded_of}
use Rattle.quantities.specs.declared.Quantity.{Quantity}
use Rattle.reassembly.specs.Step.{take_word}
use Rattle.fields.specs.Run.{Scan, Fields, Refused, sheet_of, inside_of}
use Rattle.walk.specs.Step.{walk_of}
use Rattle.reader.proofs.Fields.{walk_gives_at}
use Rattle.notes.specs.Note.{note_of}
use Rattle.contents.specs.Contents.{word_in, figure_in}
use Rattle.writer.specs.Write.{write_of, group_of}
use Rattle.writer.specs.Write as write
use Rattle.listing.specs.Listing.{text_of, listed_of}
use Rattle.summaries.specs.Summaries.{summarized_of}
use Rattle.flat_records.specs.Numbers as records
use Rattle.flat_fields.specs.Fields.{record_from}
use Rattle.flat_words.specs.Words.{encoded}
use Rattle.flat_laws.proofs.Words.{encode-alike}
use Rattle.flat_figures.specs.Printing.{holds, printed_measured}
use Rattle.flat_figures.specs.Printing as printing
use Rattle.flat_figures.specs.declared.FlatMillionths.{FlatMillionths}
use Rattle.flat_reassembly.specs.Steps.{partial_of, held_by}
use Rattle.flat_walks.proofs.Laws.{fields_alike}
use Rattle.flat_walks.specs.Walks.{flat_walk, flat_field}
use Rattle.capi_laws.specs.Pages.{element_told}
use Rattle.capi_laws.specs.Summaries.{zeros-told}
use Rattle.capi_laws.proofs.Summaries.{summary_told}
use Rattle.capi_laws.specs.EntryPoints.{of_encoded, of_count, of_scan, WordTells, MillionthsTell, WalkTells, FieldTells, EntryPoints, when_accepted, when_refused, decode_tells, page_tells, reading_tells, word_tells, point_tells, explained_tells, step_tells, check_tells, field_tells, note_tells, word_in_tells, figure_in_tells, written_tells, listed_tells, summarized_tells, written-kept, group_kept, page_kept, listed_kept, accepts, refuses}

count_tells : (m : Option Quantity) (c : ℤ) → MillionthsTell (of_count m c) (printed_measured m c)
count_tells None c = when_refused _ _ (λ f p. refl) Refusal.Label 0
count_tells (Some q) c = by (holds q c)
  where
    figure : FlatMillionths
    figure = record { refusal = 0; millionths = millionths_of q c }

    by : (b : Bool) → MillionthsTell (cond b accepts (refuses Refusal.Value 0)) (cond b figure (printing.refused (number_of Refusal.Value)))
    by true = when_accepted _ _ (λ f p. refl) (record { refusal = 0; millionths = millionths_of q c }) refl
    by false = when_refused _ _ (λ f p. refl) Refusal.Value 0

walk_tells : (x : Scan) → WalkTells (of_scan x) (flat_walk (walk_of x))
walk_tells (Fields fs) = when_accepted _ _ (λ f p. refl) (flat_walk (walk_of (Fields fs))) refl
walk_tells (Refused f p) = when_refused _ _ (λ f p. refl) f p

-- All of it holds.
pub entry_points : EntryPoints
entry_points = record {
  decode = λ w. decode_tells (decode_of w);
  reading = λ w. reading_tells (decode_of w);
  page = λ words refusals counts. page_tells (page_of words refusals counts).answer;
  page_untouched = page_kept;
  page_element = element_told;
  encode = λ f. word_tells (encoded (record_from f));
  encode_record = λ r h. subst (WordTells (of_encoded (encode_of r))) (sym (encode-alike r h)) (word_tells (encode_of r));
  chart = λ course glide. point_tells (chart_point course glide);
  figure = λ label source z. word_tells (coded_of label source z);
  count = λ label c. count_tells (quantity_at document01 label) c;
  explained = λ w z. explained_tells (explained_of w z);
  reason = λ w z r. reason_tells (explained_of w z) r;
  part = λ held w. step_tells (partial_of (take_word (held_by held) w).next.group_c) (take_word (held_by held) w).answer;
  sheet = λ s. check_tells (sheet_of s);
  walk = λ s. walk_tells (sheet_of s);
  field = λ s n. subst (FieldTells (of_scan (sheet_of s))) (sym (fields_alike s n ∙ ap flat_field (walk_gives_at s n))) (field_tells (sheet_of s) n);
  note = λ s place. note_tells place (note_of (sheet_of s) place);
  word-content = λ c. word_in_tells (word_in c);
  figure_content = λ c. figure_in_tells (figure_in c);
  written = λ out place k c. written_tells (write_of out place k c).answer;
  written_untouched = written-kept;
  group = λ out place run. written_tells (group_of out place run).answer;
  group_untouched = λ out place run. group_kept (inside_of run) out place run;
  listed = λ s out. listed_tells (listed_of (text_of s) out);
  listed_untouched = λ s out. listed_kept (text_of s) out;
  summarized = λ label source s. summarized_tells (summarized_of label source (sheet_of s));
  summary = λ label source s. summary_told label source (sheet_of s);
  none_ready = λ label source s. zeros-told label source (sheet_of s);
}
