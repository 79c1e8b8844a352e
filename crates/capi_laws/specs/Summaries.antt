-- The summary that its numbers tell, beside the deviation that words of the label measure: without a ready word it has no range and no mean.
-- Assumes nothing.
use Rattle.std.specs.Prelude.{◌≡◌, refl, Bool, true, false, cond, List, [], ◌∷◌, ℕ, eqb, leb, ℤ, pos, length, Option, Some, None}
use Rattle.std.proofs.Common.{sym, ap, subst, ◌∙◌, arith, ne_eqb}
use Rattle.refusals.specs.declared.Refusal.{Refusal}
use Rattle.fields.specs.Run.{Scan, Fields, Refused}
use Rattle.summaries.specs.Words.{sheet_words}
use Rattle.summaries.specs.Summaries.{ready_counts, total, extremes_with, range_of, mean_of, summary_of, class_of, deviation_at, summarized_in, summarized_as, summarized_of}
use Rattle.summaries.proofs.Counting.{ready_counts_lem}
use Rattle.summaries.proofs.ExtremesLemmas.{found}
use Rattle.summaries.specs.declared.Class.{Class}
use Rattle.summaries.specs.declared.Deviation.{Deviation}
use Rattle.summaries.specs.declared.Summarized.{Summarized}
use Rattle.summaries.specs.declared.Summary.{Summary}
use Rattle.flat_summaries.specs.Flat.{least_in, greatest_in, flat_summary, flat_summarized}
use Rattle.flat_summaries.specs.declared.FlatSummary.{FlatSummary}

abbrev pub summary_in : Deviation → FlatSummary → Summary
summary_in d n = record {
  ready = n.ready;
  test = n.test;
  nodata = n.nodata;
  failure = n.failure;
  refused = n.refused;
  other = n.other;
  words = n.words;
  range = range_of d (cond (eqb n.ready 0) None (Some (n.least, n.greatest)));
  sum = n.sum;
  mean = mean_of n.sum n.ready;
}

-- without a ready word the least, the greatest and the sum of the counts are 0
abbrev pub ZeroWhereNoneReady : FlatSummary → Type 0
ZeroWhereNoneReady n = n.ready ≡ 0 → (n.least ≡ pos 0) × (n.greatest ≡ pos 0) × (n.sum ≡ pos 0)

-- ---- of a list of words

-- the two counts of a range are those that it was made of
counts_back : (d : Deviation) (a b : ℤ) → range_of d (Some ((least_in (range_of d (Some (a, b)))), (greatest_in (range_of d (Some (a, b)))))) ≡ range_of d (Some (a, b))
counts_back Deviation.Course a b = refl
counts_back Deviation.Glide a b = refl
counts_back Deviation.MlsAzimuth a b = refl
counts_back Deviation.MlsGlide a b = refl

pub range_back : (d : Deviation) (cs : List ℤ) → let r = range_of d (extremes_with None cs) in
    range_of d (cond (eqb (length cs) 0) None (Some (least_in r, greatest_in r))) ≡ r
range_back d [] = refl
range_back d (c ∷ cs) =
    let f = found c cs in
    let r = range_of d (extremes_with None (c ∷ cs)) in
    let some : eqb (length (c ∷ cs)) 0 ≡ false = ne_eqb (length (c ∷ cs)) 0 (λ (e : length (c ∷ cs) ≡ 0). omega (arith, e)) in
    ap (λ (b : Bool). range_of d (cond b None (Some (least_in r, greatest_in r)))) some
    ∙ subst
    (λ (e : Option (ℤ × ℤ)). range_of d (Some (least_in (range_of d e), greatest_in (range_of d e))) ≡ range_of d e)
    (sym f.extremes)
    (counts_back d f.least f.greatest)

module _ (d : Deviation) (classes : ℕ → Class) (ws : List ℕ) where
  none_ready : ZeroWhereNoneReady (flat_summary (summary_of d classes ws))
  none_ready h = by (ready_counts classes ws) (sym (ready_counts_lem classes ws) ∙ h)
    where
      by : (cs : List ℤ) → length cs ≡ 0 → let r = range_of d (extremes_with None cs) in (least_in r ≡ pos 0) × (greatest_in r ≡ pos 0) × (total cs ≡ pos 0)
      by [] e = (refl, refl, refl)
      by (c ∷ cs) e = absurd (omega arith)

-- ---- of a sheet

-- by the deviation of the label, the test of the source and the sheet
module _ (label source : ℕ) where
  zero_within : (d : Deviation) (b : Bool) (sheet : Scan) → ZeroWhereNoneReady (flat_summarized (cond b (summarized_in d label source sheet) (Summarized.Refused Refusal.Code)))
  zero_within d true (Fields fs) h = none_ready d (class_of label source) (sheet_words fs) h
  zero_within d true (Refused f p) h = (refl, refl, refl)
  zero_within d false sheet h = (refl, refl, refl)

  zero_as : (v : Option Deviation) (sheet : Scan) → ZeroWhereNoneReady (flat_summarized (summarized_as v label source sheet))
  zero_as (Some d) sheet h = zero_within d (leb source 3) sheet h
  zero_as None sheet h = (refl, refl, refl)

  -- And they are zeros where no word is ready, or the answer is a refusal.
  pub zeros-told : (sheet : Scan) → ZeroWhereNoneReady (flat_summarized (summarized_of label source sheet))
  zeros-told sheet = zero_as (deviation_at label) sheet
