-- Worked texts of summaries: with ready words, with counts below 0, with no ready word, and the two refusals.
-- Assumes nothing.
use Rattle.std.specs.Prelude.{◌≡◌, refl, [], ◌∷◌, ◌++◌, pos, negsuc, Some, None}
use Rattle.rounding.specs.Rounding.{round_even}
use Rattle.refusals.specs.declared.Refusal.{Refusal}
use Rattle.quantities.specs.Nearest.{millionths_of}
use Rattle.text.specs.Ascii.{ascii}
use Rattle.numerals.specs.Digits.{decimal}
use Rattle.summaries.specs.declared.Range.{Range}
use Rattle.summaries.specs.declared.Summary.{Summary}
use Rattle.summaries.specs.declared.Summarized.{Summarized}
use Rattle.summary_texts.specs.SummaryTexts.{range_line, summary_text}

abbrev courses : Summary
courses = record {
  ready = 2;
  test = 3;
  nodata = 4;
  failure = 5;
  refused = 1;
  other = 17;
  words = 32;
  range = Range.Course (record { 0 = pos 126 }) (record { 0 = pos 128 });
  sum = pos 254;
  mean = Some (pos 254, 2);
}

courses_text : summary_text 0o173 1 (Summarized.Summary courses) ≡
    ascii "173 source 1: ready 2 test 3 nodata 4 failure 5\n"
    ++ ascii "least 126 0.012305 greatest 128 0.012500\n"
    ++ ascii "sum 254 mean 254/2\n"
    ++ ascii "words 32 refused 1 other 17\n"
unfolding decimal millionths_of round_even
courses_text = refl

-- below 0, and by a glide path's steps
abbrev glides : Summary
glides = record {
  ready = 3;
  test = 0;
  nodata = 0;
  failure = 0;
  refused = 0;
  other = 0;
  words = 3;
  range = Range.Glide (record { 0 = negsuc 9 }) (record { 0 = pos 4 });
  sum = negsuc 4;
  mean = Some (negsuc 4, 3);
}

glides_text : summary_text 0o174 0 (Summarized.Summary glides) ≡
    ascii "174 source 0: ready 3 test 0 nodata 0 failure 0\n"
    ++ ascii "least -10 -0.001953 greatest 4 0.000781\n"
    ++ ascii "sum -5 mean -5/3\n"
    ++ ascii "words 3 refused 0 other 0\n"
unfolding decimal millionths_of round_even
glides_text = refl

-- the same two counts as those of each deviation
range_lines :
    range_line (Range.Course (record { 0 = negsuc 9 }) (record { 0 = pos 4 }))
    ∷ range_line (Range.Glide (record { 0 = negsuc 9 }) (record { 0 = pos 4 }))
    ∷ range_line (Range.MlsAzimuth (record { 0 = negsuc 9 }) (record { 0 = pos 4 }))
    ∷ range_line (Range.MlsGlide (record { 0 = negsuc 9 }) (record { 0 = pos 4 }))
    ∷ []
    ≡ ascii "least -10 -0.000977 greatest 4 0.000391\n"
    ∷ ascii "least -10 -0.001953 greatest 4 0.000781\n"
    ∷ ascii "least -10 -0.732422 greatest 4 0.292969\n"
    ∷ ascii "least -10 -0.732422 greatest 4 0.292969\n"
    ∷ []
unfolding decimal millionths_of round_even
range_lines = refl

-- without a ready word there is no least, greatest or mean
abbrev silent : Summary
silent = record {
  ready = 0;
  test = 1;
  nodata = 0;
  failure = 2;
  refused = 0;
  other = 18;
  words = 21;
  range = Range.Nothing;
  sum = pos 0;
  mean = None;
}

silent_text : summary_text 0o174 3 (Summarized.Summary silent) ≡
    ascii "174 source 3: ready 0 test 1 nodata 0 failure 2\n"
    ++ ascii "least - greatest -\n"
    ++ ascii "sum 0 mean -\n"
    ++ ascii "words 21 refused 0 other 18\n"
unfolding decimal
silent_text = refl

refused_text : summary_text 0o222 1 (Summarized.Refused Refusal.Label) ≡ ascii "refused 2\n"
unfolding decimal
refused_text = refl

sheet_refused_text : summary_text 0o173 1 (Summarized.SheetRefused Refusal.Truncated 41) ≡ ascii "sheet refused 9 at 41\n"
unfolding decimal
sheet_refused_text = refl
