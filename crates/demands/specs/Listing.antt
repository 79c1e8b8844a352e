-- Document 01's sentences on the listing, each beside what states it.
-- Assumes nothing.
use Rattle.std.specs.Prelude.{◌≡◌, refl, Bool, true, false, cond, List, ◌++◌, ◌⊎◌, ◌↔◌, ℕ, ◌+◌, ◌≤◌, ℤ, length, Option, Some, None, Ok, Err}
use Rattle.std.proofs.Common.{sym, ap, subst, arith}
use Rattle.refusals.specs.declared.Refusal.{Refusal}
use Rattle.statuses.specs.declared.Status.{Status}
use Rattle.records.specs.declared.Body.{Body}
use Rattle.records.specs.declared.Record.{Record}
use Rattle.labels.specs.Label.{label_of}
use Rattle.decode.specs.Decode.{decode_of}
use Rattle.agreements.specs.Agreement.{agrees_of}
use Rattle.fields.specs.Grammar.{Trees, bytes_of, fields_of, Bytes, Allowed}
use Rattle.fields.specs.Run.{Field, Fields, Refused, sheet_of}
use Rattle.columns.specs.Columns.{columns_of}
use Rattle.columns.specs.declared.Mark.{Mark}
use Rattle.verdicts.specs.Theorems.{Comparable}
use Rattle.verdicts.proofs.Theorems.{comparable_exactly}
use Rattle.verdicts.specs.Verdicts.{is_comparable, verdict_of}
use Rattle.verdicts.specs.declared.Verdict.{Verdict}
use Rattle.word_lines.specs.WordLines.{record_line, refused_line}
use Rattle.lines.specs.Lines.{total_line, refusal_line}
use Rattle.totals.specs.Totals.{words_in, refused_words_in}
use Rattle.listing.specs.Listing.{listing_of, text_of}
use Rattle.listing_laws.specs.Count.{line_ends, figures_in}
use Rattle.listing_laws.specs.Groups.{lines_of_trees}

-- `text` is the text of a sheet's listing, and `line` that of a word's line.
pub record Listing (text : List ℕ → List ℕ) (line : ℕ → List ℕ) : Type 0 where
  -- "A bad sheet gives only `sheet refused N at P`."
  pub bad_sheet : (s : List ℕ) (f : Refusal) (p : ℕ) → sheet_of s ≡ Refused f p → text s ≡ refusal_line f p
  -- "Otherwise one line a word: label in three octal digits, source, status, figure, or `refused N`."
  pub accepted-word : (w : ℕ) (r : Record) → decode_of w ≡ Ok r → line w ≡ record_line (label_of w) r.source (columns_of r.body)
  pub refused-word : (w : ℕ) (f : Refusal) → decode_of w ≡ Err f → line w ≡ refused_line f
  -- "Groups and notes print nothing." There is a line for each word field and each figure field, and the total's.
  pub lines : (s : List ℕ) → Bytes s → (fs : List Field) → sheet_of s ≡ Fields fs → line_ends (text s) ≡ words_in fs + figures_in fs + 1
  -- "Failure and nodata show `-`."
  pub dash : (b : Body) → ((columns_of b).figure ≡ None) ↔ (((columns_of b).mark ≡ Mark.Status Status.Failure) ⊎ ((columns_of b).mark ≡ Mark.Status Status.NoData))
  -- "A figure field gives `figure agrees`, `figure differs`, or `figure unmatched` when the field just before it in its group is not an accepted measured word of its label with a reading."
  -- `lines_of_trees` goes by the lists of fields: each figure by the field just before it in its own list. "Last comes the total."
  pub by_groups : (ts : Trees) → Allowed 1 ts → length (bytes_of ts) ≤ 32768
      → text (bytes_of ts) ≡ lines_of_trees None ts ++ total_line (words_in (fields_of 1 0 ts)) (refused_words_in (fields_of 1 0 ts))
  pub unmatched : (before : Option ℕ) (label : ℕ) (m : ℤ) → (verdict_of before label m ≡ Verdict.Unmatched) ↔ ((w : ℕ) → before ≡ Some w → Comparable w label → ⊥)
  pub agrees : (w label : ℕ) (m : ℤ) → Comparable w label → (verdict_of (Some w) label m ≡ Verdict.Agrees) ↔ (agrees_of w m ≡ true)

pub bad_line : (s : List ℕ) (f : Refusal) (p : ℕ) → sheet_of s ≡ Refused f p → text_of s ≡ refusal_line f p
bad_line s f p e = ap listing_of e

-- the verdict on a figure after a word, by whether they are compared and whether they agree
abbrev verdict_by : Bool → Bool → Verdict
verdict_by compared agree = cond compared (cond agree Verdict.Agrees Verdict.Differs) Verdict.Unmatched

unmatched_exactly : (compared agree : Bool) → (verdict_by compared agree ≡ Verdict.Unmatched) ↔ (compared ≡ true → ⊥)
unmatched_exactly true true = (λ e. let z : ◌≡◌ {A = ℕ} 0 1 = cc in absurd (omega arith), λ n. absurd (n refl))
unmatched_exactly true false = (λ e. let z : ◌≡◌ {A = ℕ} 0 1 = cc in absurd (omega arith), λ n. absurd (n refl))
unmatched_exactly false agree = (λ e t. let z : ◌≡◌ {A = ℕ} 0 1 = cc in omega arith, λ n. refl)

pub agrees_exactly : (compared agree : Bool) → compared ≡ true → (verdict_by compared agree ≡ Verdict.Agrees) ↔ (agree ≡ true)
agrees_exactly true true t = (λ e. refl, λ e. refl)
agrees_exactly true false t = (λ e. let z : ◌≡◌ {A = ℕ} 0 1 = cc in absurd (omega arith), λ e. let z : ◌≡◌ {A = ℕ} 0 1 = cc in absurd (omega arith))
agrees_exactly false agree t = let z : ◌≡◌ {A = ℕ} 0 1 = cc in absurd (omega arith)

no_word : (w : ℕ) → None ≡ Some w → ⊥
no_word w e = let z : ◌≡◌ {A = ℕ} 0 1 = cc in omega arith

same_word : (v w : ℕ) → Some v ≡ Some w → v ≡ w
same_word v w e = cc

pub figure_unmatched : (before : Option ℕ) (label : ℕ) (m : ℤ) → (verdict_of before label m ≡ Verdict.Unmatched) ↔ ((w : ℕ) → before ≡ Some w → Comparable w label → ⊥)
figure_unmatched None label m = (λ e w f. absurd (no_word w f), λ h. refl)
figure_unmatched (Some v) label m =
    let which = unmatched_exactly (is_comparable v label) (agrees_of v m) in
    let compared = comparable_exactly v label in (
      λ e w f c. which.0 e (compared.1 (subst (λ (x : ℕ). Comparable x label) (sym (same_word v w f)) c)),
      λ h. which.1 (λ t. h v refl (compared.0 t)),
    )
