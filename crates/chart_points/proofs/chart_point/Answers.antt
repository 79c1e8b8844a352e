-- What the two calls of `decode` give is what the definition goes by, and a point's doubles are those of the theorem `point_of-words`.
use Rattle.std.specs.Prelude.{Result}
use mathlib.Core.Path.{◌≡◌, sym, ap₂, ◌∙◌, subst⁻¹}
use Prim.Native.Nat.{ℕ}
use Rattle.decode.specs.Decode.{decode_of}
use Rattle.chart.specs.declared.ChartPoint.{ChartPoint}
use Rattle.records.specs.declared.Record.{Record}
use Rattle.refusals.specs.declared.Refusal.{Refusal}
use Rattle.chart.specs.Words.{chart_decoded, chart_point, PointOfWords}
use Rattle.chart.proofs.Words.{point_of-words}
use Rattle.chart_points.proofs.chart_point.Goals as goal

answer : (w v : ℕ) {d e : Result Record Refusal} {r : Result ChartPoint Refusal} → d ≡ decode_of w → e ≡ decode_of v → r ≡ chart_decoded d e → (r ≡ chart_point w v) × PointOfWords w v r
answer w v p q h =
    let is = h ∙ ap₂ chart_decoded p q in
    (is, subst⁻¹ (PointOfWords w v) is (point_of-words w v))

pub returns-clause-values : goal.returns-clause-values
returns-clause-values c =
    (answer c.args.first c.args.second (sym c.in_ok-course.was ∙ c.decode.ensures) (sym c.in_ok-glide.was ∙ c.decode-2.ensures) c.chart_of.ensures.operations).1
