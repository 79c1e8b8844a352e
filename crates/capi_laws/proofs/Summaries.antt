-- The summary that its numbers tell, beside the deviation that words of the label measure: without a ready word it has no range and no mean.
-- Assumes nothing.
use Rattle.std.specs.Prelude.{◌≡◌, Bool, true, false, cond, List, ℕ, eqb, leb, length, Option, Some, None}
use Rattle.std.proofs.Common.{sym, ap, subst, ◌∙◌, arith}
use Rattle.refusals.specs.declared.Refusal.{Refusal}
use Rattle.fields.specs.Run.{Scan, Fields, Refused}
use Rattle.summaries.specs.Words.{sheet_words}
use Rattle.summaries.specs.Summaries.{ready_counts, range_of, mean_of, summary_of, class_of, deviation_at, summarized_in, summarized_as, summarized_of}
use Rattle.summaries.proofs.Counting.{ready_counts_lem}
use Rattle.summaries.specs.declared.Class.{Class}
use Rattle.summaries.specs.declared.Deviation.{Deviation}
use Rattle.summaries.specs.declared.Range.{Range}
use Rattle.summaries.specs.declared.Summarized.{Summarized}
use Rattle.summaries.specs.declared.Summary.{Summary}
use Rattle.flat_summaries.specs.Flat.{least_in, greatest_in, flat_summary, flat_summarized}
use Rattle.capi_laws.specs.Summaries.{summary_in, range_back}

module _ (d : Deviation) (classes : ℕ → Class) (ws : List ℕ) where
  summary_back : summary_of d classes ws ≡ summary_in d (flat_summary (summary_of d classes ws))
  summary_back =
      let s = summary_of d classes ws in
      let r : Range = s.range in
      let n : s.ready ≡ length (ready_counts classes ws) = ready_counts_lem classes ws in
      sym (λ i. record {
        ready = s.ready;
        test = s.test;
        nodata = s.nodata;
        failure = s.failure;
        refused = s.refused;
        other = s.other;
        words = s.words;
        range = (ap (λ (k : ℕ). range_of d (cond (eqb k 0) None (Some (least_in r, greatest_in r)))) n ∙ range_back d (ready_counts classes ws)) i;
        sum = s.sum;
        mean = mean_of s.sum (n i);
      })

module _ (label source : ℕ) where
  within : (d : Deviation) (b : Bool) (sheet : Scan) (x : Summary) → cond b (summarized_in d label source sheet) (Summarized.Refused Refusal.Code) ≡ Summarized.Summary x
      → x ≡ summary_in d (flat_summary x)
  within d true (Fields fs) x e =
      let same : summary_of d (class_of label source) (sheet_words fs) ≡ x = cc in
      subst (λ (y : Summary). y ≡ summary_in d (flat_summary y)) same (summary_back d (class_of label source) (sheet_words fs))
  within d true (Refused f p) x e = let z : ◌≡◌ {A = ℕ} 0 1 = cc in absurd (omega arith)
  within d false sheet x e = let z : ◌≡◌ {A = ℕ} 0 1 = cc in absurd (omega arith)

  -- The numbers tell all of a summary.
  pub summary_told : (sheet : Scan) (d : Deviation) (x : Summary) → deviation_at label ≡ Some d → summarized_of label source sheet ≡ Summarized.Summary x
      → x ≡ summary_in d (flat_summarized (summarized_of label source sheet))
  summary_told sheet d x known e =
      within d (leb source 3) sheet x (ap (λ (v : Option Deviation). summarized_as v label source sheet) (sym known) ∙ e)
      ∙ ap (λ (y : Summarized). summary_in d (flat_summarized y)) (sym e)
