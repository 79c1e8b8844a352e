-- What document 01 says of a chart point of two records: which refusal comes first, and what its doubles are.
-- Assumes nothing.
use Rattle.std.specs.Prelude.{◌≡◌, refl, Bool, true, false, cond, ◌&&◌, ◌||◌, List, [], ◌∷◌, ◌⊎◌, ◌↔◌, ℕ, eqb, Float, Option, Some, None, Result, Ok, Err}
use Rattle.std.proofs.Common.{sym, ap, ap₂, ◌∙◌, inl, inr, arith, eqb-true, eq-eqb}
use Rattle.std.proofs.Math.Path.{subst⁻¹}
use Rattle.std.proofs.lemmas.Bool.{false≢true}
use Rattle.bits.specs.Laws.{both_true}
use Rattle.records.specs.All.{place_of}
use Rattle.records.proofs.All.{one_place}
use Rattle.records.specs.Kinds.{kind_of}
use Rattle.records.specs.declared.Body.{Body}
use Rattle.records.specs.declared.Kind.{Kind}
use Rattle.records.specs.declared.Record.{Record}
use Rattle.refusals.specs.Order.{Rule, asks, Answers, Follows}
use Rattle.refusals.proofs.Order.{kept-one, broken_one, tested, reworded}
use Rattle.refusals.specs.Order.{no_rules}
use Rattle.refusals.specs.declared.Refusal.{Refusal}
use Rattle.statuses.specs.declared.Status.{Status}
use Rattle.doubles.specs.Doubles.{course_of, glide_of}
use Rattle.readings.specs.Readings.{reading_of, shown_under}
use Rattle.readings.specs.Meaning.{HasReading, Holds, IsReading, Shows, CountFits}
use Rattle.readings.proofs.Meaning.{reading_right}
use Rattle.readings.specs.declared.Reading.{Reading}
use Rattle.readings.specs.declared.Shown.{Shown}
use Rattle.chart.specs.Chart.{is_kind, are_course_and_glide, difference_in, difference_of, joined, chart_of}
use Rattle.chart.specs.declared.ChartPoint.{ChartPoint}

-- what is refused is no point
pub never : (f : Refusal) (p : ChartPoint) → Err f ≡ Ok p → ⊥
never f p e = let z : ◌≡◌ {A = ℕ} 0 1 = cc in omega arith

pub one_refusal : (f g : Refusal) → ◌≡◌ {A = Result ChartPoint Refusal} (Err f) (Err g) → f ≡ g
one_refusal f g e = cc

-- an answer is a refusal or a point
abbrev pub charted : Answers Refusal (Result ChartPoint Refusal)
charted = record {
  refuse = Err;
  accepts = λ answer. (p : ChartPoint) × (answer ≡ Ok p);
  apart = λ f h. never f h.0 h.1;
  once = one_refusal;
}

-- ---- the rules of two records: 2 if they are not 173 and 174, 4 if their sources differ, 8 if one has no reading

abbrev pub record_rules : Record → Record → List (Rule Refusal)
record_rules first second =
    asks ((kind_of first.body ≡ Kind.IlsCourse) × (kind_of second.body ≡ Kind.IlsGlide)) Refusal.Label
    ∷ asks (first.source ≡ second.source) Refusal.Code
    ∷ asks (HasReading (reading_of first.body) × HasReading (reading_of second.body)) Refusal.Reach
    ∷ []

-- A point's doubles are the readings of the two records.
abbrev pub PointOf : Record → Record → Result ChartPoint Refusal → Type 0
PointOf first second answer =
    (p : ChartPoint) → answer ≡ Ok p
    → IsReading first.body (Reading.DepthDifference p.course) × IsReading second.body (Reading.DepthDifference p.glide)

-- ---- kinds of one place are one kind

pub same_kind : (j k : Kind) → is_kind j k ≡ true → j ≡ k
same_kind j k e = one_place j k (eqb-true (place_of j) (place_of k) e)

pub kind_same : (j k : Kind) → j ≡ k → is_kind j k ≡ true
kind_same j k e = eq-eqb (place_of j) (place_of k) (ap place_of e)

-- ---- a course and a glide have a depth difference exactly when they have a reading

abbrev Told : Shown → Type 0
Told shown = (HasReading shown × ((x : Float) × (difference_of shown ≡ Some x))) ⊎ ((HasReading shown → ⊥) × (difference_of shown ≡ None))

told_under : (s : Status) (x : Float) → Told (shown_under s (Reading.DepthDifference x))
told_under Status.Failure x = inr (λ h. h, refl)
told_under Status.NoData x = inr (λ h. h, refl)
told_under Status.Test x = inl (tt, (x, refl))
told_under Status.Ready x = inl (tt, (x, refl))

told : (b : Body) → (is_kind (kind_of b) Kind.IlsCourse || is_kind (kind_of b) Kind.IlsGlide) ≡ true → Told (reading_of b)
told (Body.VorAzimuth s m n) e = absurd (false≢true e)
told (Body.VorFrequency s f) e = absurd (false≢true e)
told (Body.IlsCourse s i n) e = told_under s (course_of n.0)
told (Body.IlsGlide s i n) e = told_under s (glide_of n.0)
told (Body.IlsFrequency s c f) e = absurd (false≢true e)
told (Body.MlsFrequency s f) e = absurd (false≢true e)
told (Body.MlsAzimuthDeviation s i c n) e = absurd (false≢true e)
told (Body.MlsGlideDeviation s i c n) e = absurd (false≢true e)
told (Body.SelectedAzimuth s m d) e = absurd (false≢true e)
told (Body.GreatestGlideAngle s t) e = absurd (false≢true e)
told (Body.SelectedGlideAngle s m t) e = absurd (false≢true e)
told (Body.Part1 n c) e = absurd (false≢true e)
told (Body.Part2 c) e = absurd (false≢true e)
told (Body.Part3 c) e = absurd (false≢true e)
told (Body.Part4 g c) e = absurd (false≢true e)

told_course : (b : Body) → kind_of b ≡ Kind.IlsCourse → Told (reading_of b)
told_course b e = told b (ap (λ (t : Bool). t || is_kind (kind_of b) Kind.IlsGlide) (kind_same (kind_of b) Kind.IlsCourse e))

told_glide : (b : Body) → kind_of b ≡ Kind.IlsGlide → Told (reading_of b)
told_glide b e = told b (ap (λ (k : Kind). is_kind k Kind.IlsCourse || is_kind k Kind.IlsGlide) e)

abbrev BothRead : Shown → Shown → Rule Refusal
BothRead x y = asks (HasReading x × HasReading y) Refusal.Reach

one_missing : (x y : Shown) → (HasReading x × HasReading y → ⊥) → Follows charted (BothRead x y ∷ []) (Err Refusal.Reach)
one_missing x y n = broken_one charted (HasReading x × HasReading y) Refusal.Reach [] n

joined_follows : (x y : Shown) → Told x → Told y → Follows charted (BothRead x y ∷ []) (joined (difference_of x) (difference_of y))
joined_follows x y (inl h) (inl k) =
    let both : HasReading x × HasReading y = (h.0, k.0) in
    subst⁻¹ (Follows charted (BothRead x y ∷ [])) (ap₂ joined h.1.1 k.1.1)
    (kept-one charted (HasReading x × HasReading y) Refusal.Reach [] _ both (no_rules charted (Ok (record { course = h.1.0; glide = k.1.0 })) (record { course = h.1.0; glide = k.1.0 }, refl)))
joined_follows x y (inl h) (inr k) = subst⁻¹ (Follows charted (BothRead x y ∷ [])) (ap₂ joined h.1.1 k.1) (one_missing x y (λ m. k.0 m.1))
joined_follows x y (inr h) k = subst⁻¹ (Follows charted (BothRead x y ∷ [])) (ap (λ (d : Option Float). joined d (difference_of y)) h.1) (one_missing x y (λ m. h.0 m.0))

-- ---- the order of the refusals, and when a point is given

-- for rules that say the same of the two records in other words
pub chart_follows : (first second : Record) (K S R : Type 0) → K ↔ ((kind_of first.body ≡ Kind.IlsCourse) × (kind_of second.body ≡ Kind.IlsGlide))
    → (K → S ↔ (first.source ≡ second.source)) → (K → (HasReading (reading_of first.body) × HasReading (reading_of second.body)) ↔ R)
    → Follows charted (asks K Refusal.Label ∷ asks S Refusal.Code ∷ asks R Refusal.Reach ∷ []) (chart_of first second)
chart_follows first second K S R kinds sources readings =
    tested charted (are_course_and_glide first.body second.body) K Refusal.Label _ _
    (λ e.
    let b = both_true (is_kind (kind_of first.body) Kind.IlsCourse) (is_kind (kind_of second.body) Kind.IlsGlide) e in
    kinds.1 (same_kind (kind_of first.body) Kind.IlsCourse b.0, same_kind (kind_of second.body) Kind.IlsGlide b.1))
    (λ k. ap₂ ◌&&◌ (kind_same (kind_of first.body) Kind.IlsCourse (kinds.0 k).0) (kind_same (kind_of second.body) Kind.IlsGlide (kinds.0 k).1))
    (λ k.
    tested charted (eqb first.source second.source) S Refusal.Code _ _ (λ e. (sources k).1 (eqb-true first.source second.source e)) (λ s. eq-eqb first.source second.source ((sources k).0 s))
    (λ s.
    reworded charted _ R Refusal.Reach [] _ (readings k)
    (joined_follows (reading_of first.body) (reading_of second.body) (told_course first.body (kinds.0 k).0) (told_glide second.body (kinds.0 k).1))))

-- ---- the doubles of a point

difference_in_lem : (reading : Reading) (x : Float) → difference_in reading ≡ Some x → reading ≡ Reading.DepthDifference x
difference_in_lem (Reading.Degrees y) x e = cc
difference_in_lem (Reading.DepthDifference y) x e = cc
difference_in_lem (Reading.Millivolts y) x e = cc
difference_in_lem (Reading.Frequency f) x e = cc
difference_in_lem (Reading.Setting s) x e = cc

difference_shown : (shown : Shown) (x : Float) → difference_of shown ≡ Some x → Holds shown (Reading.DepthDifference x)
difference_shown (Shown.Ready reading) x e = difference_in_lem reading x e
difference_shown (Shown.Test reading) x e = difference_in_lem reading x e
difference_shown Shown.Absent x e = let z : ◌≡◌ {A = ℕ} 0 1 = cc in omega arith

-- a difference is the reading of this body
abbrev pub DifferenceOf : Body → Option Float → Type 0
DifferenceOf body d = (x : Float) → d ≡ Some x → IsReading body (Reading.DepthDifference x)

pub difference_right : (body : Body) (shown : Shown) (d : Option Float) → Shows body shown → d ≡ difference_of shown → DifferenceOf body d
difference_right body shown d h e x q = h.right (Reading.DepthDifference x) (difference_shown shown x (sym e ∙ q))

taken-apart : (d e : Option Float) (p : ChartPoint) → joined d e ≡ Ok p → (d ≡ Some p.course) × (e ≡ Some p.glide)
taken-apart (Some x) (Some y) p q = let r : ◌≡◌ {A = ChartPoint} (record { course = x; glide = y }) p = cc in (ap (λ (c : ChartPoint). Some c.course) r, ap (λ (c : ChartPoint). Some c.glide) r)
taken-apart (Some x) None p q = absurd (never Refusal.Reach p q)
taken-apart None e p q = absurd (never Refusal.Reach p q)

pub point_right : (first second : Record) (d e : Option Float) (answer : Result ChartPoint Refusal) → DifferenceOf first.body d → DifferenceOf second.body e → answer ≡ joined d e → PointOf first second answer
point_right first second d e answer course glide h p q =
    let t = taken-apart d e p (sym h ∙ q) in
    (course p.course t.0, glide p.glide t.1)

pub refused_no_point : (first second : Record) (f : Refusal) → PointOf first second (Err f)
refused_no_point first second f p q = absurd (never f p q)

given : (test : Bool) (answer : Result ChartPoint Refusal) (f : Refusal) (p : ChartPoint) → cond test answer (Err f) ≡ Ok p → answer ≡ Ok p
given true answer f p e = e
given false answer f p e = absurd (never f p e)

pub chart_right : (first second : Record) → CountFits first.body → CountFits second.body → PointOf first second (chart_of first second)
chart_right first second h k p e =
    let x = reading_of first.body in
    let y = reading_of second.body in
    point_right first second (difference_of x) (difference_of y) (joined (difference_of x) (difference_of y))
    (difference_right first.body x (difference_of x) (reading_right first.body h) refl)
    (difference_right second.body y (difference_of y) (reading_right second.body k) refl)
    refl
    p
    (given (eqb first.source second.source) _ Refusal.Code p (given (are_course_and_glide first.body second.body) _ Refusal.Label p e))
