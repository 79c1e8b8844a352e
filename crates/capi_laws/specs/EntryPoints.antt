-- Demand 1 from C. Each function that C calls answers with the numbers of the definition that stands in its contract (crates/capi/src/lib.rt). Stated here is what they tell: the number in
-- `refusal` is 0 exactly where the definition of the library's function accepts, else that of its refusal; beside a refusal all else is zero but an offset, and a buffer is as it was.
-- Assumes nothing.
use Rattle.std.specs.Prelude.{◌≡◌, refl, Bool, true, false, cond, List, [], ◌∷◌, ◌++◌, ◌↔◌, ℕ, zero, suc, ◌<◌, ltb, ℤ, pos, length, get_or, drop, Option, Some, None, Result, Ok, Err}
use Rattle.std.proofs.Common.{sym, ap, ◌∙◌, arith}
use Rattle.refusals.specs.Numbers.{number_of, refusal_of}
use Rattle.refusals.proofs.Numbers.{refusal_of-number, number-bounds}
use Rattle.chart.specs.declared.ChartPoint.{ChartPoint}
use Rattle.quantities.specs.declared.Quantity.{Quantity}
use Rattle.refusals.specs.declared.Refusal.{Refusal}
use Rattle.records.specs.declared.Record.{Record}
use Rattle.views.specs.declared.Setting.{Setting}
use Rattle.labels.proofs.Assignment.{document01}
use Rattle.decode.specs.Decode.{decode_of}
use Rattle.pages.specs.Page.{page_when, is_short, page_of}
use Rattle.pages.specs.Statements.{Fits}
use Rattle.encode.specs.Encode.{encode_of}
use Rattle.readings.specs.Readings.{reading_of}
use Rattle.readings.specs.declared.Reading.{Reading}
use Rattle.readings.specs.declared.Shown.{Shown}
use Rattle.reasons.specs.Reasons.{number_of as reasonNumber}
use Rattle.reasons.specs.declared.Reason.{Reason}
use Rattle.explanations.specs.Explanations.{explained_of}
use Rattle.flat_explanations.specs.Explained.{flat_explained}
use Rattle.flat_explanations.specs.declared.FlatExplained.{FlatExplained}
use Rattle.chart.specs.Words.{chart_point}
use Rattle.figures.specs.Coding.{quantity_at, coded_of}
use Rattle.reassembly.specs.Step.{take_word}
use Rattle.reassembly.specs.declared.WordAnswer.{WordAnswer}
use Rattle.fields.specs.Run.{Field, Scan, Fields, Refused, sheet_of}
use Rattle.fields.specs.Start.{field_bytes}
use Rattle.fields.specs.declared.FieldKind.{FieldKind}
use Rattle.sheet.specs.Checked.{checked_of}
use Rattle.walk.specs.Step.{start_walk}
use Rattle.reader.specs.Fields.{field_in, field_at}
use Rattle.notes.specs.Note.{NoteText, Text, NoText, note_of}
use Rattle.contents.specs.Contents.{word_in, figure_in}
use Rattle.writer.specs.Write.{answer_of, unless_refused, write_of, group_of}
use Rattle.writer.specs.Write as write
use Rattle.listing.specs.Listing.{text_of, listed_of, buffer_of}
use Rattle.summaries.specs.Summaries.{deviation_at, summarized_of}
use Rattle.summaries.specs.declared.Deviation.{Deviation}
use Rattle.summaries.specs.declared.Summarized.{Summarized}
use Rattle.summaries.specs.declared.Summary.{Summary}
use Rattle.flat_records.specs.Numbers.{flat_of}
use Rattle.flat_records.specs.Numbers as records
use Rattle.flat_records.specs.declared.FlatRecord.{FlatRecord}
use Rattle.flat_fields.specs.Fields.{record_from}
use Rattle.flat_words.specs.Words.{flat_word, encoded, encode_flat}
use Rattle.flat_words.specs.declared.FlatWord.{FlatWord}
use Rattle.flat_laws.specs.Back.{Bounded}
use Rattle.flat_laws.specs.Refusals.{accepted-number}
use Rattle.flat_points.specs.Points.{flat_point}
use Rattle.flat_readings.specs.Readings.{nought, flat_reading, absent, flat_shown, flat_read, reading_in}
use Rattle.flat_points.specs.declared.FlatPoint.{FlatPoint}
use Rattle.flat_readings.specs.declared.FlatReading.{FlatReading}
use Rattle.flat_figures.specs.Printing.{holds, printed_of}
use Rattle.flat_figures.specs.Printing as printing
use Rattle.flat_figures.specs.declared.FlatMillionths.{FlatMillionths}
use Rattle.flat_reassembly.specs.Steps.{partial_of, answered, step_with, held_by, reassembled}
use Rattle.flat_reassembly.specs.declared.FlatStep.{FlatStep}
use Rattle.flat_reassembly.specs.declared.Partial.{Partial}
use Rattle.flat_places.specs.Places.{flat_checked, flat_written}
use Rattle.flat_places.specs.declared.FlatPlace.{FlatPlace}
use Rattle.flat_walks.specs.Laws.{flat_after}
use Rattle.flat_walks.specs.Walks.{flat_walk, flat_field, stepped}
use Rattle.flat_walks.specs.declared.FlatField.{FlatField}
use Rattle.flat_walks.specs.declared.FlatWalk.{FlatWalk}
use Rattle.flat_contents.specs.Contents.{flat_word_in, flat_figure_in, flat_note}
use Rattle.flat_contents.specs.declared.FlatFigure.{FlatFigure}
use Rattle.flat_contents.specs.declared.FlatNote.{FlatNote}
use Rattle.flat_pages.specs.Filled.{flat_filled}
use Rattle.flat_listing.specs.Listed.{flat_listed}
use Rattle.flat_listing.specs.declared.FlatListed.{FlatListed}
use Rattle.flat_summaries.specs.Flat.{flat_summarized}
use Rattle.flat_summaries.specs.declared.FlatSummary.{FlatSummary}
use Rattle.capi_laws.specs.Summaries.{summary_in, ZeroWhereNoneReady}

-- ---- what is stated

-- what a definition says: it accepts, or refuses, with an offset (0 where there is none)
pub data Said : Type 0 where
  accepts : Said
  refuses : Refusal → (offset : ℕ) → Said

-- Numbers tell what is said. `number` is where the refusal's number stands in them, and `beside` are the numbers of a refusal.
pub record Tells {N : Type 0} (number : N → ℕ) (beside : Refusal → ℕ → N) (said : Said) (told : N) : Type 0 where
  pub accepted : (number told ≡ 0) ↔ (said ≡ accepts)
  pub refused : (f : Refusal) → (number told ≡ number_of f) ↔ ((offset : ℕ) × (said ≡ refuses f offset))
  pub zeros : (f : Refusal) (offset : ℕ) → said ≡ refuses f offset → told ≡ beside f offset

-- what is refused leaves a buffer as it stood
abbrev pub Untouched : {A : Type 0} → Said → (before after : List A) → Type 0
Untouched accepts before after = Unit {0}
Untouched (refuses f offset) before after = after ≡ before

-- ---- what the library's definitions say

abbrev pub of_decoded : Result Record Refusal → Said
of_decoded (Ok r) = accepts
of_decoded (Err f) = refuses f 0

abbrev pub of_filled : Result Unit Refusal → Said
of_filled (Ok tt) = accepts
of_filled (Err f) = refuses f 0

abbrev pub of_encoded : Result ℕ Refusal → Said
of_encoded (Ok w) = accepts
of_encoded (Err f) = refuses f 0

abbrev pub of_charted : Result ChartPoint Refusal → Said
of_charted (Ok p) = accepts
of_charted (Err f) = refuses f 0

abbrev pub of_explained : Result Reason Refusal → Said
of_explained (Ok r) = accepts
of_explained (Err f) = refuses f 0

-- a count is printed: 2 where the label measures nothing, 6 where its bits do not hold the count
abbrev pub of_count : Option Quantity → ℤ → Said
of_count (Some q) c = cond (holds q c) accepts (refuses Refusal.Value 0)
of_count None c = refuses Refusal.Label 0

abbrev pub of_answer : WordAnswer → Said
of_answer WordAnswer.Incomplete = accepts
of_answer (WordAnswer.Complete g) = accepts
of_answer (WordAnswer.Refused f) = refuses f 0

abbrev pub of_scan : Scan → Said
of_scan (Fields fs) = accepts
of_scan (Refused f p) = refuses f p

abbrev pub of_note : NoteText → Said
of_note (Text t) = accepts
of_note (NoText f p) = refuses f p

abbrev pub of_word_in : Result ℕ Refusal → Said
of_word_in (Ok w) = accepts
of_word_in (Err f) = refuses f 0

abbrev pub of_figure_in : Result (ℕ × ℤ) Refusal → Said
of_figure_in (Ok (l, m)) = accepts
of_figure_in (Err f) = refuses f 0

abbrev pub of_written : Result ℕ (Refusal × ℕ) → Said
of_written (Ok end) = accepts
of_written (Err (f, p)) = refuses f p

abbrev pub of_listed : Result ℕ Refusal → Said
of_listed (Ok n) = accepts
of_listed (Err f) = refuses f 0

abbrev pub of_summarized : Summarized → Said
of_summarized (Summarized.Summary s) = accepts
of_summarized (Summarized.Refused f) = refuses f 0
of_summarized (Summarized.SheetRefused f p) = refuses f p

-- ---- what the numbers of each structure tell: its field `refusal`, and zeros beside it but for the offset

abbrev pub RecordTells : Said → FlatRecord → Type 0
RecordTells = Tells (λ (n : FlatRecord). n.refusal) (λ f p. records.refused (number_of f))

-- a number alone
abbrev pub NumberTells : Said → ℕ → Type 0
NumberTells = Tells (λ (n : ℕ). n) (λ f p. number_of f)

abbrev pub WordTells : Said → FlatWord → Type 0
WordTells = Tells (λ (n : FlatWord). n.refusal) (λ f p. record { refusal = number_of f; word = 0 })

abbrev pub ReadingTells : Said → FlatReading → Type 0
ReadingTells = Tells (λ (n : FlatReading). n.refusal) (λ f p. absent (number_of f))

abbrev pub PointTells : Said → FlatPoint → Type 0
PointTells = Tells (λ (n : FlatPoint). n.refusal) (λ f p. record { refusal = number_of f; course = nought; glide = nought })

abbrev pub MillionthsTell : Said → FlatMillionths → Type 0
MillionthsTell = Tells (λ (n : FlatMillionths). n.refusal) (λ f p. record { refusal = number_of f; millionths = pos 0 })

-- beside what is then held
abbrev pub StepTells : Partial → Said → FlatStep → Type 0
StepTells next =
    Tells (λ (n : FlatStep). n.refusal) (λ f p. record { next = next; refusal = number_of f; complete = 0; parity_good = 0; bits = 0 })

abbrev pub PlaceTells : Said → FlatPlace → Type 0
PlaceTells = Tells (λ (n : FlatPlace). n.refusal) (λ f p. record { refusal = number_of f; offset = p })

abbrev pub WalkTells : Said → FlatWalk → Type 0
WalkTells = Tells (λ (n : FlatWalk). n.refusal) (λ f p. record { refusal = number_of f; place = p; end1 = 0; end2 = 0; end3 = 0 })

abbrev pub FieldTells : Said → FlatField → Type 0
FieldTells = Tells (λ (n : FlatField). n.refusal) (λ f p. record { refusal = number_of f; tag = 0; depth = 0; place = p; length = 0 })

abbrev pub NoteTells : Said → FlatNote → Type 0
NoteTells = Tells (λ (n : FlatNote). n.refusal) (λ f p. record { refusal = number_of f; start = p; length = 0 })

abbrev pub FigureTells : Said → FlatFigure → Type 0
FigureTells = Tells (λ (n : FlatFigure). n.refusal) (λ f p. record { refusal = number_of f; label = 0; millionths = pos 0 })

abbrev pub ReasonTells : Said → FlatExplained → Type 0
ReasonTells = Tells (λ (n : FlatExplained). n.refusal) (λ f p. record { refusal = number_of f; reason = 0 })

abbrev pub LengthTells : Said → FlatListed → Type 0
LengthTells = Tells (λ (n : FlatListed). n.refusal) (λ f p. record { refusal = number_of f; length = 0 })

abbrev pub SummaryTells : Said → FlatSummary → Type 0
SummaryTells =
    Tells
    (λ (n : FlatSummary). n.refusal)
    (λ f p. record { refusal = number_of f; offset = p; ready = 0; test = 0; nodata = 0; failure = 0; refused = 0; other = 0; words = 0; least = pos 0; greatest = pos 0; sum = pos 0 })

-- ---- the functions that C calls

pub record EntryPoints : Type 0 where
  -- lampcygnet_decode, lampcygnet_reading_of
  pub decode : (w : ℕ) → RecordTells (of_decoded (decode_of w)) (flat_of (decode_of w))
  pub reading : (w : ℕ) → ReadingTells (of_decoded (decode_of w)) (reading_in w)
  -- lampcygnet_decode_page: the refusal of the call, beside which both lists are as they were; else each element is the number that lampcygnet_decode gives of its word
  pub page : (words refusals : List ℕ) (counts : List ℤ) → let x = page_of words refusals counts in NumberTells (of_filled x.answer) (flat_filled x.answer)
  pub page_untouched : (words refusals : List ℕ) (counts : List ℤ) → let x = page_of words refusals counts in
      Untouched (of_filled x.answer) refusals x.refusals × Untouched (of_filled x.answer) counts x.counts
  pub page_element : (words refusals : List ℕ) (counts : List ℤ) → Fits words refusals counts → (i : ℕ) → i < length words → let x = page_of words refusals counts in
      (get_or x.refusals i 0 ≡ (flat_of (decode_of (get_or words i 0))).refusal) × (get_or x.counts i (pos 0) ≡ (flat_of (decode_of (get_or words i 0))).count)
  -- lampcygnet_encode: on any numbers, and on those of any record
  pub encode : (f : FlatRecord) → WordTells (of_encoded (encoded (record_from f))) (encode_flat f)
  pub encode_record : (r : Record) → Bounded r.body → WordTells (of_encoded (encode_of r)) (encode_flat (flat_of (Ok r)))
  -- lampcygnet_chart_point
  pub chart : (course glide : ℕ) → PointTells (of_charted (chart_point course glide)) (flat_point (chart_point course glide))
  -- lampcygnet_code_figure, lampcygnet_print_count; lampcygnet_agrees refuses nothing, and its contract says all
  pub figure : (label source : ℕ) (millionths : ℤ) → WordTells (of_encoded (coded_of label source millionths)) (flat_word (coded_of label source millionths))
  pub count : (label : ℕ) (c : ℤ) → MillionthsTell (of_count (quantity_at document01 label) c) (printed_of label c)
  -- lampcygnet_explain: the reason's number beside 0, or 0 beside the refusal's
  pub explained : (w : ℕ) (millionths : ℤ) → ReasonTells (of_explained (explained_of w millionths)) (flat_explained (explained_of w millionths))
  pub reason : (w : ℕ) (millionths : ℤ) (r : Reason) → (explained_of w millionths ≡ Ok r) ↔ ((flat_explained (explained_of w millionths)).reason ≡ reasonNumber r)
  -- lampcygnet_reassemble
  pub part : (held : Partial) (w : ℕ) → StepTells (partial_of (take_word (held_by held) w).next.group_c) (of_answer (take_word (held_by held) w).answer) (reassembled held w)
  -- lampcygnet_check_sheet, lampcygnet_walk_from_start, and lampcygnet_next_field after any number of steps from there
  pub sheet : (s : List ℕ) → PlaceTells (of_scan (sheet_of s)) (flat_checked (checked_of (sheet_of s)))
  pub walk : (s : List ℕ) → WalkTells (of_scan (sheet_of s)) (flat_walk (start_walk s))
  pub field : (s : List ℕ) (n : ℕ) → FieldTells (of_scan (sheet_of s)) (stepped s (flat_after n s (flat_walk (start_walk s)))).field
  -- lampcygnet_find_note, lampcygnet_word_in, lampcygnet_figure_in
  pub note : (s : List ℕ) (place : ℕ) → NoteTells (of_note (note_of (sheet_of s) place)) (flat_note place (note_of (sheet_of s) place))
  pub word-content : (c : List ℕ) → WordTells (of_word_in (word_in c)) (flat_word_in (word_in c))
  pub figure_content : (c : List ℕ) → FigureTells (of_figure_in (figure_in c)) (flat_figure_in (figure_in c))
  -- lampcygnet_write_word, lampcygnet_write_figure, lampcygnet_write_note
  pub written : (out : List ℕ) (place : ℕ) (k : FieldKind) (c : List ℕ)
      → PlaceTells (of_written (write_of out place k c).answer) (flat_written (write_of out place k c).answer)
  pub written_untouched : (out : List ℕ) (place : ℕ) (k : FieldKind) (c : List ℕ)
      → Untouched (of_written (write_of out place k c).answer) out (write_of out place k c).buffer
  -- lampcygnet_write_group
  pub group : (out : List ℕ) (place : ℕ) (run : List ℕ) → PlaceTells (of_written (group_of out place run).answer) (flat_written (group_of out place run).answer)
  pub group_untouched : (out : List ℕ) (place : ℕ) (run : List ℕ) → Untouched (of_written (group_of out place run).answer) out (group_of out place run).buffer
  -- lampcygnet_list_sheet
  pub listed : (s out : List ℕ) → LengthTells (of_listed (listed_of (text_of s) out)) (flat_listed (listed_of (text_of s) out))
  pub listed_untouched : (s out : List ℕ) → Untouched (of_listed (listed_of (text_of s) out)) out (buffer_of (text_of s) out)
  -- lampcygnet_summarize: the refusal; beside the label all of a summary; and zeros where no word is ready
  pub summarized : (label source : ℕ) (s : List ℕ) → let x = summarized_of label source (sheet_of s) in SummaryTells (of_summarized x) (flat_summarized x)
  pub summary : (label source : ℕ) (s : List ℕ) (d : Deviation) (x : Summary) → deviation_at label ≡ Some d → summarized_of label source (sheet_of s) ≡ Summarized.Summary x
      → x ≡ summary_in d (flat_summarized (summarized_of label source (sheet_of s)))
  pub none_ready : (label source : ℕ) (s : List ℕ) → ZeroWhereNoneReady (flat_summarized (summarized_of label source (sheet_of s)))

-- ---- one law for all structures

not_both : {f : Refusal} {p : ℕ} → accepts ≡ refuses f p → ⊥
not_both e = let z : ◌≡◌ {A = ℕ} 0 1 = cc in omega arith

no_number : (f : Refusal) → 0 ≡ number_of f → ⊥
no_number f e = omega (arith, (number-bounds f).0)

same_refusal : (f g : Refusal) → number_of f ≡ number_of g → f ≡ g
same_refusal f g e = let z : Some f ≡ Some g = sym (refusal_of-number f) ∙ ap refusal_of e ∙ refusal_of-number g in cc

module _ {N : Type 0} (number : N → ℕ) (beside : Refusal → ℕ → N) (numbered : (f : Refusal) (p : ℕ) → number (beside f p) ≡ number_of f) where
  pub when_accepted : (told : N) → number told ≡ 0 → Tells number beside accepts told
  when_accepted told h = record {
    accepted = (λ e. refl, λ e. h);
    refused = λ f. (λ e. absurd (no_number f (sym h ∙ e)), λ q. absurd (not_both q.1));
    zeros = λ f p e. absurd (not_both e);
  }

  pub when_refused : (f : Refusal) (p : ℕ) → Tells number beside (refuses f p) (beside f p)
  when_refused f p = record {
    accepted = (λ e. absurd (no_number f (sym e ∙ numbered f p)), λ e. absurd (not_both (sym e)));
    refused = λ g. (
      λ e. (p, ap (λ (h : Refusal). refuses h p) (same_refusal f g (sym (numbered f p) ∙ e))),
      λ q. let same : f ≡ g = let z = q.1 in cc in numbered f p ∙ ap number_of same,
    );
    zeros = λ g q e.
        let one : f ≡ g = cc in
        let two : p ≡ q = cc in
        λ i. beside (one i) (two i);
  }

-- ---- each definition

pub decode_tells : (d : Result Record Refusal) → RecordTells (of_decoded d) (flat_of d)
decode_tells (Ok r) = when_accepted _ _ (λ f p. refl) (flat_of (Ok r)) (accepted-number r)
decode_tells (Err f) = when_refused _ _ (λ f p. refl) f 0

pub page_tells : (x : Result Unit Refusal) → NumberTells (of_filled x) (flat_filled x)
page_tells (Ok tt) = when_accepted _ _ (λ f p. refl) 0 refl
page_tells (Err f) = when_refused _ _ (λ f p. refl) f 0

reading_0 : (n : ℕ) (r : Reading) → (flat_reading n r).refusal ≡ 0
reading_0 n (Reading.Degrees x) = refl
reading_0 n (Reading.DepthDifference x) = refl
reading_0 n (Reading.Millivolts x) = refl
reading_0 n (Reading.Frequency f) = refl
reading_0 n (Reading.Setting (Setting.SelectedAzimuth m d)) = refl
reading_0 n (Reading.Setting (Setting.GreatestGlideAngle t)) = refl
reading_0 n (Reading.Setting (Setting.SelectedGlideAngle m t)) = refl

shown_0 : (s : Shown) → (flat_shown s).refusal ≡ 0
shown_0 (Shown.Ready r) = reading_0 1 r
shown_0 (Shown.Test r) = reading_0 2 r
shown_0 Shown.Absent = refl

pub reading_tells : (d : Result Record Refusal) → ReadingTells (of_decoded d) (flat_read d)
reading_tells (Ok r) = when_accepted _ _ (λ f p. refl) (flat_shown (reading_of r.body)) (shown_0 (reading_of r.body))
reading_tells (Err f) = when_refused _ _ (λ f p. refl) f 0

pub word_tells : (x : Result ℕ Refusal) → WordTells (of_encoded x) (flat_word x)
word_tells (Ok w) = when_accepted _ _ (λ f p. refl) (flat_word (Ok w)) refl
word_tells (Err f) = when_refused _ _ (λ f p. refl) f 0

pub point_tells : (x : Result ChartPoint Refusal) → PointTells (of_charted x) (flat_point x)
point_tells (Ok p) = when_accepted _ _ (λ f p. refl) (flat_point (Ok p)) refl
point_tells (Err f) = when_refused _ _ (λ f p. refl) f 0

pub explained_tells : (x : Result Reason Refusal) → ReasonTells (of_explained x) (flat_explained x)
explained_tells (Ok r) = when_accepted _ _ (λ f p. refl) (flat_explained (Ok r)) refl
explained_tells (Err f) = when_refused _ _ (λ f p. refl) f 0

pub step_tells : (next : Partial) (a : WordAnswer) → StepTells next (of_answer a) (step_with next (answered a))
step_tells next WordAnswer.Incomplete = when_accepted _ _ (λ f p. refl) (step_with next (answered WordAnswer.Incomplete)) refl
step_tells next (WordAnswer.Complete g) = when_accepted _ _ (λ f p. refl) (step_with next (answered (WordAnswer.Complete g))) refl
step_tells next (WordAnswer.Refused f) = when_refused _ _ (λ f p. refl) f 0

pub check_tells : (x : Scan) → PlaceTells (of_scan x) (flat_checked (checked_of x))
check_tells (Fields fs) = when_accepted _ _ (λ f p. refl) (flat_checked (checked_of (Fields fs))) refl
check_tells (Refused f p) = when_refused _ _ (λ f p. refl) f p

given_0 : (fs : List Field) (n : ℕ) → (flat_field (field_in fs n)).refusal ≡ 0
given_0 [] n = refl
given_0 (f ∷ fs) zero = refl
given_0 (f ∷ fs) (suc n) = given_0 fs n

pub field_tells : (x : Scan) (n : ℕ) → FieldTells (of_scan x) (flat_field (field_at x n))
field_tells (Fields fs) n = when_accepted _ _ (λ f p. refl) (flat_field (field_in fs n)) (given_0 fs n)
field_tells (Refused f p) n = when_refused _ _ (λ f p. refl) f p

pub note_tells : (place : ℕ) (t : NoteText) → NoteTells (of_note t) (flat_note place t)
note_tells place (Text t) = when_accepted _ _ (λ f p. refl) (flat_note place (Text t)) refl
note_tells place (NoText f p) = when_refused _ _ (λ f p. refl) f p

pub word_in_tells : (x : Result ℕ Refusal) → WordTells (of_word_in x) (flat_word_in x)
word_in_tells (Ok w) = when_accepted _ _ (λ f p. refl) (flat_word_in (Ok w)) refl
word_in_tells (Err f) = when_refused _ _ (λ f p. refl) f 0

pub figure_in_tells : (x : Result (ℕ × ℤ) Refusal) → FigureTells (of_figure_in x) (flat_figure_in x)
figure_in_tells (Ok (l, m)) = when_accepted _ _ (λ f p. refl) (flat_figure_in (Ok (l, m))) refl
figure_in_tells (Err f) = when_refused _ _ (λ f p. refl) f 0

pub written_tells : (x : Result ℕ (Refusal × ℕ)) → PlaceTells (of_written x) (flat_written x)
written_tells (Ok end) = when_accepted _ _ (λ f p. refl) (flat_written (Ok end)) refl
written_tells (Err (f, p)) = when_refused _ _ (λ f p. refl) f p

pub listed_tells : (x : Result ℕ Refusal) → LengthTells (of_listed x) (flat_listed x)
listed_tells (Ok n) = when_accepted _ _ (λ f p. refl) (flat_listed (Ok n)) refl
listed_tells (Err f) = when_refused _ _ (λ f p. refl) f 0

pub summarized_tells : (x : Summarized) → SummaryTells (of_summarized x) (flat_summarized x)
summarized_tells (Summarized.Summary s) = when_accepted _ _ (λ f p. refl) (flat_summarized (Summarized.Summary s)) refl
summarized_tells (Summarized.Refused f) = when_refused _ _ (λ f p. refl) f 0
summarized_tells (Summarized.SheetRefused f p) = when_refused _ _ (λ f p. refl) f p

-- ---- buffers

answer_untouched : (x : Result ℕ (Refusal × ℕ)) (out : List ℕ) (place : ℕ) (bytes : List ℕ) → Untouched (of_written x) out (write.buffer_of x out place bytes)
answer_untouched (Ok end) out place bytes = tt
answer_untouched (Err (f, p)) out place bytes = refl

pub written-kept : (out : List ℕ) (place : ℕ) (k : FieldKind) (c : List ℕ) → Untouched (of_written (write_of out place k c).answer) out (write_of out place k c).buffer
written-kept out place k c = answer_untouched (answer_of (length out) place (length c)) out place (field_bytes k c)

pub group_kept : (x : Scan) (out : List ℕ) (place : ℕ) (run : List ℕ)
    → Untouched (of_written (unless_refused x out (write_of out place FieldKind.Group run)).answer) out (unless_refused x out (write_of out place FieldKind.Group run)).buffer
group_kept (Fields fs) out place run = written-kept out place FieldKind.Group run
group_kept (Refused f p) out place run = refl

pub page_kept : (words refusals : List ℕ) (counts : List ℤ) → let x = page_of words refusals counts in
    Untouched (of_filled x.answer) refusals x.refusals × Untouched (of_filled x.answer) counts x.counts
page_kept words refusals counts = by (is_short words refusals counts)
  where
    by : (short : Bool) → let x = page_when short words refusals counts in
        Untouched (of_filled x.answer) refusals x.refusals × Untouched (of_filled x.answer) counts x.counts
    by true = (refl, refl)
    by false = (tt, tt)

pub listed_kept : (text out : List ℕ) → Untouched (of_listed (listed_of text out)) out (buffer_of text out)
listed_kept text out = by (ltb (length out) (length text))
  where
    by : (b : Bool) → Untouched (of_listed (cond b (Err Refusal.Room) (Ok (length text)))) out (cond b out (text ++ drop (length text) out))
    by true = refl
    by false = tt
