-- The chart point of two words, and what document 01 says of it in terms of the words' own bits.
-- Assumes nothing.
use Rattle.std.specs.Prelude.{◌≡◌, refl, Bool, true, false, cond, List, [], ◌∷◌, ◌⊎◌, ◌↔◌, ℕ, zero, suc, ◌/◌, ◌^◌, ◌<◌, ℤ, Float, Option, Some, None, Result, Ok, Err}
use Rattle.std.proofs.Common.{sym, ap, ◌∙◌, subst, inl, inr, mod-lt, lt_of_lt_of_le, arith, lit≤, lit<}
use Rattle.bits.specs.Fields.{bits}
use Rattle.bits.specs.Complement.{signed, signed-holds}
use Rattle.bits.specs.Layout.{clear}
use Rattle.bits.specs.Parity.{odd}
use Rattle.records.specs.Layouts.{word_layout}
use Rattle.statuses.specs.Statuses.{binary_status}
use Rattle.records.specs.Kinds.{kind_of}
use Rattle.records.specs.declared.Kind.{Kind}
use Rattle.records.specs.declared.Record.{Record}
use Rattle.refusals.specs.Order.{Rule, asks}
use Rattle.refusals.specs.declared.Refusal.{Refusal}
use Rattle.labels.specs.Label.{label_of}
use Rattle.records.specs.All.{kinds, agree}
use Rattle.labels.specs.Table.{label_number, rows, find_kind, only}
use Rattle.labels.proofs.Table.{found}
use Rattle.decode.specs.Rules.{rules, body_of}
use Rattle.decode.specs.Decode.{judgement, judged, record_of, decode_found, decode_of}
use Rattle.doubles.specs.Exact.{IsCount}
use Rattle.doubles.specs.Nearest.{IsNearest}
use Rattle.readings.specs.Readings.{shown_under}
use Rattle.readings.specs.Meaning.{HasReading}
use Rattle.readings.specs.declared.Reading.{Reading}
use Rattle.chart.specs.Chart.{chart_of}
use Rattle.chart.specs.declared.ChartPoint.{ChartPoint}

-- the first word's refusal, the second's, then what their records give
abbrev pub chart_decoded : Result Record Refusal → Result Record Refusal → Result ChartPoint Refusal
chart_decoded (Ok a) (Ok b) = chart_of a b
chart_decoded (Ok a) (Err f) = Err f
chart_decoded (Err f) second = Err f

abbrev pub chart_point : ℕ → ℕ → Result ChartPoint Refusal
chart_point first second = chart_decoded (decode_of first) (decode_of second)

-- ---- the rules of two words

-- a word is accepted, or gives its own refusal
abbrev pub accepted : ℕ → Rule Refusal
accepted w = record { kept = (r : Record) × (decode_of w ≡ Ok r); broken = λ f. decode_of w ≡ Err f }

-- bits 30 and 31 say test, 01, or ready, 11
abbrev pub TestOrReady : ℕ → Type 0
TestOrReady w = (bits 30 31 w ≡ 2) ⊎ (bits 30 31 w ≡ 3)

-- the first word's number, the second's, 2 if they are not 173 and 174, 4 if their sources differ, 8 if one has no reading
abbrev pub word_rules : ℕ → ℕ → List (Rule Refusal)
word_rules first second =
    accepted first
    ∷ accepted second
    ∷ asks ((label_of first ≡ 0o173) × (label_of second ≡ 0o174)) Refusal.Label
    ∷ asks (bits 9 10 first ≡ bits 9 10 second) Refusal.Code
    ∷ asks (TestOrReady first × TestOrReady second) Refusal.Reach
    ∷ []

-- A point's doubles are one division of each word's count, in bits 17 to 29, by 10240 and 5120: the nearest to the quotients.
abbrev pub PointOfWords : ℕ → ℕ → Result ChartPoint Refusal → Type 0
PointOfWords first second answer =
    (p : ChartPoint) → answer ≡ Ok p
    → IsNearest p.course (signed 13 (bits 17 29 first)) 10240 × IsNearest p.glide (signed 13 (bits 17 29 second)) 5120

-- ---- an accepted word is of the kind of its label, and its record is the one that its bits hold

kept_record : (c : Bool) (v : Result Unit Refusal) (q r : Record) → cond c (judged v q) (Err Refusal.ZeroBit) ≡ Ok r → r ≡ q
kept_record true (Ok tt) q r e = cc
kept_record true (Err f) q r e = cc
kept_record false v q r e = cc

pub record Read (w : ℕ) (r : Record) : Type 0 where
  pub kind : Kind
  pub label : label_of w ≡ label_number kind
  pub is : r ≡ record_of kind w

pub clash : (d : Result Record Refusal) (f : Refusal) (r : Record) → d ≡ Err f → d ≡ Ok r → ⊥
clash d f r p q = let z : ◌≡◌ {A = ℕ} 0 1 = cc in omega arith

pub same_refusal : (d : Result Record Refusal) (f g : Refusal) → d ≡ Err f → d ≡ Err g → g ≡ f
same_refusal d f g p q = cc

pub read : (w : ℕ) (r : Record) → decode_of w ≡ Ok r → Read w r
read w r = go (odd w) (find_kind rows (label_of w)) refl
  where
    go : (b : Bool) (l : Option Kind) → find_kind rows (label_of w) ≡ l → cond b (decode_found l w) (Err Refusal.Parity) ≡ Ok r → Read w r
    go true (Some k) q e = record {
      kind = k;
      label = sym (only kinds (label_of w) k q);
      is = kept_record (clear (word_layout k) w) (judgement (rules k w)) (record_of k w) r e;
    }
    go true None q e = absurd (clash (Err Refusal.Label) Refusal.Label r refl e)
    go false l q e = absurd (clash (Err Refusal.Parity) Refusal.Parity r refl e)

kind_of_body : (k : Kind) (w : ℕ) → kind_of (body_of k w) ≡ k
kind_of_body k w = agree (λ k. kind_of (body_of k w)) (λ k. k) refl k

module _ (w : ℕ) (r : Record) (d : Read w r) where
  of_kind : kind_of r.body ≡ d.kind
  of_kind = ap (λ (q : Record). kind_of q.body) d.is ∙ kind_of_body d.kind w

  kind_is : (k : Kind) → label_of w ≡ label_number k → d.kind ≡ k
  kind_is k e = let q : Some d.kind ≡ Some k = sym (found d.kind) ∙ ap (find_kind rows) (sym d.label ∙ e) ∙ found k in cc

  pub labelled : (k : Kind) → (label_of w ≡ label_number k) ↔ (kind_of r.body ≡ k)
  labelled k = (λ e. of_kind ∙ kind_is k e, λ e. d.label ∙ ap label_number (sym of_kind ∙ e))

  pub body_is : (k : Kind) → label_of w ≡ label_number k → r.body ≡ body_of k w
  body_is k e = ap (λ (q : Record). q.body) d.is ∙ ap (λ (j : Kind). body_of j w) (kind_is k e)

  pub source_is : r.source ≡ bits 9 10 w
  source_is = ap (λ (q : Record). q.source) d.is

-- ---- a course or glide word has a reading exactly when its bits 30 and 31 say test or ready

pub code_reading : (c : ℕ) → c < 4 → (x : Reading) → HasReading (shown_under (binary_status c) x) ↔ ((c ≡ 2) ⊎ (c ≡ 3))
code_reading zero h x = (λ e. absurd e, elim [ inl e ↦ absurd (omega arith) | inr e ↦ absurd (omega arith) ])
code_reading (suc zero) h x = (λ e. absurd e, elim [ inl e ↦ absurd (omega arith) | inr e ↦ absurd (omega arith) ])
code_reading (suc (suc zero)) h x = (λ e. inl refl, λ e. tt)
code_reading (suc (suc (suc n))) h x = (λ e. inr (omega arith), λ e. tt)

pub status_lt : (w : ℕ) → bits 30 31 w < 4
status_lt w = mod-lt (w / 2 ^ 29) (lit< tt)

-- ---- the order of the refusals, and when a point is given

-- ---- the doubles of a point

pub count_fits : (w : ℕ) → IsCount (signed 13 (bits 17 29 w))
count_fits w = lt_of_lt_of_le (signed-holds 13 (bits 17 29 w) (lit< tt) (mod-lt (w / 2 ^ 16) (lit< tt))) (lit≤ tt)

pub nearest_of : (n : ℤ) (divisor : ℕ) (y : Float) → (x : Float) × (Reading.DepthDifference y ≡ Reading.DepthDifference x) × IsNearest x n divisor → IsNearest y n divisor
nearest_of n divisor y h = let q : h.0 ≡ y = cc in subst (λ (z : Float). IsNearest z n divisor) q h.2
