-- Demand 1: "Every entry point takes whatever number, word or sheet comes and ends. Bad input gets the refusal number of document 01, no record, and no byte written in a buffer we lent."
-- That each ends and asks for nothing is what the checker proves of every function: none of them has a `requires`. Stated here is which refusal each gives, by the definitions that stand in
-- their contracts: it is refused with f (at p) exactly when f is what the first broken rule of its list gives, and gives its answer exactly when none is broken. No answer does both.
-- Words are 32-bit numbers, and the bytes of a sheet are below 256.
-- Assumes nothing.
use Rattle.std.specs.Prelude.{◌≡◌, refl, Bool, true, false, cond, List, ◌++◌, ℕ, ◌^◌, ◌<◌, ltb, ℤ, length, drop, Ok, Err}
use Rattle.std.proofs.Common.{arith}
use Rattle.refusals.specs.Order.{Follows}
use Rattle.refusals.specs.declared.Refusal.{Refusal}
use Rattle.records.specs.declared.Record.{Record}
use Rattle.labels.specs.Label.{label_of}
use Rattle.labels.specs.Assignment.{Assignment}
use Rattle.labels.proofs.Assignment.{document01}
use Rattle.decode.specs.Decode.{decode_as, decode_of}
use Rattle.pages.specs.Page.{page_of}
use Rattle.pages.specs.Statements.{page_rules, filling}
use Rattle.encode.specs.Encode.{encode_as, encode_of}
use Rattle.chart.specs.Chart.{chart_of}
use Rattle.chart.specs.Points.{charted}
use Rattle.chart.specs.Points as points
use Rattle.chart.specs.Words.{chart_point}
use Rattle.chart.specs.Words as chart-words
use Rattle.quantities.specs.declared.Quantity.{Quantity}
use Rattle.figures.specs.Coding.{coded_under, coded_of}
use Rattle.explanations.specs.Explanations.{explained_of}
use Rattle.explanations.specs.Statements.{explaining}
use Rattle.explanations.specs.Statements as explanation
use Rattle.part_words.specs.Parts.{part_in}
use Rattle.reassembly.specs.Step.{take_word}
use Rattle.reassembly.specs.declared.Reassembler.{Reassembler}
use Rattle.contents.specs.Contents.{word_in, figure_in}
use Rattle.fields.specs.declared.FieldKind.{FieldKind}
use Rattle.fields.specs.Grammar.{Bytes}
use Rattle.fields.specs.Rules.{field_rules, sheet_rules, inside_rules}
use Rattle.fields.specs.Answers.{started}
use Rattle.fields.specs.Run.{sheet_of, inside_of}
use Rattle.fields.specs.Start.{start_of}
use Rattle.sheet.specs.Checked.{checked_of, field_of}
use Rattle.walk.specs.Step.{start_walk}
use Rattle.walk.specs.Step.{step_of}
use Rattle.walk.specs.Walked.{after}
use Rattle.notes.specs.Note.{note_of}
use Rattle.totals.specs.Totals.{totals_of}
use Rattle.summaries.specs.Statements.{summary_rules, summarizing}
use Rattle.summaries.specs.Summaries.{summarized_of}
use Rattle.writer.specs.Write.{write_of, group_of}
use Rattle.listing.specs.Listing.{listed_of, buffer_of}
use Rattle.demands.specs.Order.{word_rules, decoded}
use Rattle.demands.specs.EntryRules.{record_rules, record_rules_as, figure_rules, figure_rules_as, part_rules, take_rules, content_rules, note_rules, write_rules, group_rules, room_rules, top_field_rules, encoded, parts, taken, words, figures, checked, passed, walked, noted, counted, written, listed}

-- "Bad input gets the refusal number of document 01, no record, and no byte written in a buffer we lent."
pub record Demand1 : Type 0 where
  -- a word to its record: `decode`, and `decode_as` with the kind that the word's label has under any labels
  pub word : (w : ℕ) → w < 2 ^ 32 → Follows decoded (word_rules document01 w) (decode_of w)
  pub word_as_lem : (a : Assignment) (w : ℕ) → w < 2 ^ 32 → Follows decoded (word_rules a w) (decode_as (a.kind (label_of w)) w)
  -- a page of words into two lists: `decode_page`
  pub page : (words refusals : List ℕ) (counts : List ℤ) → Follows filling (page_rules words refusals counts) (page_of words refusals counts).answer
  pub page_untouched : (words refusals : List ℕ) (counts : List ℤ) (f : Refusal) → (page_of words refusals counts).answer ≡ Err f
      → ((page_of words refusals counts).refusals ≡ refusals) × ((page_of words refusals counts).counts ≡ counts)
  -- a record to its word: `encode`, and `encode_as` under any label
  pub «record» : (r : Record) → Follows encoded (record_rules r) (encode_of r)
  pub record_as : (label : ℕ) (r : Record) → Follows encoded (record_rules_as label r) (encode_as label r)
  -- a figure to its word: `code_figure`, and `code_under` under any label
  pub figure : (label source : ℕ) (millionths : ℤ) → Follows encoded (figure_rules label source millionths) (coded_of label source millionths)
  pub figure_as : (q : Quantity) (label source : ℕ) (millionths : ℤ) → Follows encoded (figure_rules_as q source millionths) (coded_under q label source millionths)
  -- a word and a figure to the reason why they agree or do not: `explain`
  pub explained : (w : ℕ) (millionths : ℤ) → Follows explaining (explanation.word_rules document01 w) (explained_of w millionths)
  -- two words, or two records, to a chart point: `chart_point`, `chart_of`
  pub chart : (course glide : ℕ) → Follows charted (chart-words.word_rules course glide) (chart_point course glide)
  pub chart_records : (course glide : Record) → Follows charted (points.record_rules course glide) (chart_of course glide)
  -- a word to the part that it carries, and to the reassembly: `part_in`, `Reassembler::take`
  pub part : (w : ℕ) → w < 2 ^ 32 → Follows parts (part_rules w) (part_in w)
  pub take : (held : Reassembler) (w : ℕ) → w < 2 ^ 32 → Follows taken (take_rules held w) (take_word held w).answer
  -- the contents of a word field and of a figure field: `word_in`, `figure_in`
  pub word-content : (c : List ℕ) → Follows words (content_rules 4 c) (word_in c)
  pub figure_content : (c : List ℕ) → Follows figures (content_rules 9 c) (figure_in c)
  -- a sheet and the inside of a group: `check_sheet`, `check_inside`
  pub sheet : (s : List ℕ) → Bytes s → Follows checked (sheet_rules s) (checked_of (sheet_of s))
  pub inside : (run : List ℕ) → Bytes run → Follows checked (inside_rules run) (checked_of (inside_of run))
  -- a top field with its inside, at a place of a sheet: `check_top_field`
  pub top_field : (s : List ℕ) → Bytes s → (at : ℕ) → Follows passed (top_field_rules s at) (field_of 1 0 at s)
  -- one field, where bytes are left: `start_at`
  pub field : (depth : ℕ) (bs : List ℕ) → 0 < length bs → Follows started (field_rules depth bs) (start_of depth bs)
  -- each answer of a walk from its start: `step` after `start`, `sheet_reader::next` after `sheet_reader::new`, `field_at`
  pub walk : (s : List ℕ) → Bytes s → (n : ℕ) → Follows walked (sheet_rules s) (step_of s (after n s (start_walk s))).given
  -- a note and the totals: `find_note`, `note_text`, `totals_of`
  pub note : (s : List ℕ) → Bytes s → (place : ℕ) → Follows noted (note_rules s place) (note_of (sheet_of s) place)
  pub totals : (s : List ℕ) → Bytes s → Follows counted (sheet_rules s) (totals_of (sheet_of s))
  -- the summary of a label and a source in a sheet: `summarize`
  pub summary : (label source : ℕ) (s : List ℕ) → Bytes s → Follows summarizing (summary_rules label source s) (summarized_of label source (sheet_of s))
  -- one field into a buffer: `write_word`, `write_figure`, `write_note`
  pub write : (out : List ℕ) (place : ℕ) (k : FieldKind) (c : List ℕ) → Follows written (write_rules (length out) place (length c)) (write_of out place k c).answer
  pub write_untouched : (out : List ℕ) (place : ℕ) (k : FieldKind) (c : List ℕ) (f : Refusal) (p : ℕ) → (write_of out place k c).answer ≡ Err (f, p) → (write_of out place k c).buffer ≡ out
  -- a group into a buffer: `write_group`
  pub group : (out : List ℕ) (place : ℕ) (run : List ℕ) → Bytes run → Follows written (group_rules (length out) place run) (group_of out place run).answer
  pub group_untouched : (out : List ℕ) (place : ℕ) (run : List ℕ) (f : Refusal) (p : ℕ) → (group_of out place run).answer ≡ Err (f, p) → (group_of out place run).buffer ≡ out
  -- a text into a buffer, the listing of a sheet or the lines of its fields: `list_sheet`, `list_fields`
  pub list : (text out : List ℕ) → Follows listed (room_rules (length out) (length text)) (listed_of text out)
  pub list_untouched : (text out : List ℕ) (f : Refusal) → listed_of text out ≡ Err f → buffer_of text out ≡ out

pub listed_unchanged : (text out : List ℕ) (f : Refusal) → listed_of text out ≡ Err f → buffer_of text out ≡ out
listed_unchanged text out f = by (ltb (length out) (length text))
  where
    by : (b : Bool) → cond b (Err Refusal.Room) (Ok (length text)) ≡ Err f → cond b out (text ++ drop (length text) out) ≡ out
    by true e = refl
    by false e = let z : ◌≡◌ {A = ℕ} 0 1 = cc in absurd (omega arith)
