-- The chart point of two words, and what document 01 says of it in terms of the words' own bits.
-- Assumes nothing.
use Rattle.std.specs.Prelude.{◌≡◌, refl, [], ◌∷◌, ◌↔◌, ℕ, Result, Ok, Err}
use Rattle.std.proofs.Common.{sym, ap₂, ◌∙◌, subst}
use Rattle.std.proofs.Math.Path.{subst⁻¹}
use Rattle.bits.specs.Fields.{bits}
use Rattle.bits.specs.Complement.{signed}
use Rattle.records.specs.declared.Body.{Body}
use Rattle.records.specs.declared.Kind.{Kind}
use Rattle.records.specs.declared.Record.{Record}
use Rattle.refusals.specs.Order.{asks, Follows}
use Rattle.refusals.proofs.Order.{kept-first, broken_first}
use Rattle.refusals.specs.declared.Refusal.{Refusal}
use Rattle.labels.specs.Label.{label_of}
use Rattle.decode.specs.Decode.{decode_of}
use Rattle.readings.specs.Readings.{course_reading, glide_reading, reading_of}
use Rattle.readings.specs.Meaning.{HasReading, IsReading, CountFits}
use Rattle.readings.specs.declared.Reading.{Reading}
use Rattle.chart.specs.Chart.{chart_of}
use Rattle.chart.specs.Points.{charted, chart_follows, chart_right}
use Rattle.chart.specs.Words.{chart_decoded, chart_point, accepted, TestOrReady, word_rules, PointOfWords, Read, clash, same_refusal, read, labelled, body_is, source_is, code_reading, status_lt, count_fits, nearest_of}

course_read : (w : ℕ) (r : Record) → Read w r → label_of w ≡ 0o173 → HasReading (reading_of r.body) ↔ TestOrReady w
course_read w r d e =
    subst⁻¹ (λ (b : Body). HasReading (reading_of b) ↔ TestOrReady w) (body_is w r d Kind.IlsCourse e)
    (code_reading (bits 30 31 w) (status_lt w) (course_reading (signed 13 (bits 17 29 w))))

glide_read : (w : ℕ) (r : Record) → Read w r → label_of w ≡ 0o174 → HasReading (reading_of r.body) ↔ TestOrReady w
glide_read w r d e =
    subst⁻¹ (λ (b : Body). HasReading (reading_of b) ↔ TestOrReady w) (body_is w r d Kind.IlsGlide e)
    (code_reading (bits 30 31 w) (status_lt w) (glide_reading (signed 13 (bits 17 29 w))))

records_follow : (w v : ℕ) (a b : Record) → Read w a → Read v b
    → Follows charted (asks ((label_of w ≡ 0o173) × (label_of v ≡ 0o174)) Refusal.Label ∷ asks (bits 9 10 w ≡ bits 9 10 v) Refusal.Code ∷ asks (TestOrReady w × TestOrReady v) Refusal.Reach ∷ []) (chart_of a b)
records_follow w v a b d e =
    let x = source_is w a d in
    let y = source_is v b e in
    chart_follows a b _ _ _
    (λ k. ((labelled w a d Kind.IlsCourse).0 k.0, (labelled v b e Kind.IlsGlide).0 k.1), λ k. ((labelled w a d Kind.IlsCourse).1 k.0, (labelled v b e Kind.IlsGlide).1 k.1))
    (λ k. (λ h. x ∙ h ∙ sym y, λ h. sym x ∙ h ∙ y))
    (λ k.
    let course = course_read w a d k.0 in
    let glide = glide_read v b e k.1 in
    (λ h. (course.0 h.0, glide.0 h.1), λ h. (course.1 h.0, glide.1 h.1)))

pub word_order : (first second : ℕ) → Follows charted (word_rules first second) (chart_point first second)
word_order w v = go (decode_of w) (decode_of v) refl refl
  where
    go : (d e : Result Record Refusal) → decode_of w ≡ d → decode_of v ≡ e → Follows charted (word_rules w v) (chart_decoded d e)
    go (Ok a) (Ok b) p q =
        kept-first charted (accepted w) _ _ (a, p) (λ f h. clash (decode_of w) f a h p)
        (kept-first charted (accepted v) _ _ (b, q) (λ f h. clash (decode_of v) f b h q) (records_follow w v a b (read w a p) (read v b q)))
    go (Ok a) (Err f) p q =
        kept-first charted (accepted w) _ _ (a, p) (λ g h. clash (decode_of w) g a h p)
        (broken_first charted (accepted v) _ f (λ k. clash (decode_of v) f k.0 q k.1) q (λ g h. same_refusal (decode_of v) f g q h))
    go (Err f) e p q = broken_first charted (accepted w) _ f (λ k. clash (decode_of w) f k.0 p k.1) p (λ g h. same_refusal (decode_of w) f g p h)

pub point_of-words : (first second : ℕ) → PointOfWords first second (chart_point first second)
point_of-words w v p e =
    let kept = (word_order w v).accepted.0 (p, e) in
    let a = kept.0.0 in
    let b = kept.1.0.0 in
    let labels = kept.1.1.0 in
    let course = body_is w a (read w a kept.0.1) Kind.IlsCourse labels.0 in
    let glide = body_is v b (read v b kept.1.0.1) Kind.IlsGlide labels.1 in
    let right = chart_right a b (subst⁻¹ CountFits course (count_fits w)) (subst⁻¹ CountFits glide (count_fits v)) p (sym (ap₂ chart_decoded kept.0.1 kept.1.0.1) ∙ e) in (
      nearest_of (signed 13 (bits 17 29 w)) 10240 p.course (subst (λ (x : Body). IsReading x (Reading.DepthDifference p.course)) course right.0),
      nearest_of (signed 13 (bits 17 29 v)) 5120 p.glide (subst (λ (x : Body). IsReading x (Reading.DepthDifference p.glide)) glide right.1),
    )
