-- What document 01 says of a chart point of two records: which refusal comes first, and what its doubles are.
-- Assumes nothing.
use Rattle.records.specs.declared.Record.{Record}
use Rattle.refusals.specs.Order.{Follows}
use Rattle.chart.specs.Chart.{chart_of}
use Rattle.chart.specs.Points.{charted, record_rules, chart_follows}

pub chart_order : (first second : Record) → Follows charted (record_rules first second) (chart_of first second)
chart_order first second = chart_follows first second _ _ _ (λ k. k, λ k. k) (λ k. (λ s. s, λ s. s)) (λ k. (λ r. r, λ r. r))
