-- The answer by the row of a word's kind is the single call's: the row's tests are the kind's rules, and the count is that of the record.
-- Assumes nothing.
use Rattle.std.specs.Prelude.{◌≡◌, refl, Bool, cond, ℕ, ◌/◌, ◌%◌, Option, Some}
use Rattle.std.proofs.Common.{sym, ap, ap₂, ◌∙◌}
use Rattle.bits.specs.Layout.{clear}
use Rattle.bits.specs.Parity.{odd}
use Rattle.codes.specs.Codes.{marker_listed}
use Rattle.refusals.specs.declared.Refusal.{Refusal}
use Rattle.records.specs.All.{agree}
use Rattle.records.specs.Layouts.{word_layout}
use Rattle.records.specs.declared.Kind.{Kind}
use Rattle.decode.specs.Decode.{judgement, record_of, decode_clear, decode_found, decode_as}
use Rattle.decode.specs.Rules.{rules, body_of}
use Rattle.measurements.specs.Measurements.{measurement_of}
use Rattle.pages.specs.Page.{count_in, answer_in, answer_of}
use Rattle.word_rows.specs.RowLemmas.{byte_hit}
use Rattle.word_rows.specs.Rows.{asked, candidate}
use Rattle.word_rows.specs.declared.Asked.{Asked}
use Rattle.word_rows.specs.Asking.{is_listed, judgement_by, count_by, refused, judged_answer, clear_answer, known_answer}
use Rattle.word_rows.specs.AskingLaws.{eight, among, three, every_code, part, any-setting, judged_by, one-odd, coded, cleared, judged-answer, tested}

marker : (w : ℕ) → is_listed (asked Kind.VorAzimuth) w ≡ marker_listed (w / 1024 % 8)
marker w = eight (among (asked Kind.VorAzimuth).codes) marker_listed tt (w / 1024 % 8) (three w 10)

pub judgement_by_lem : (k : Kind) (w : ℕ) → judgement_by (asked k) w ≡ judgement (rules k w)
judgement_by_lem Kind.VorAzimuth w = coded Kind.VorAzimuth w (marker w) refl refl
judgement_by_lem Kind.VorFrequency w = refl
judgement_by_lem Kind.IlsCourse w = coded Kind.IlsCourse w (every_code w) refl refl
judgement_by_lem Kind.IlsGlide w = coded Kind.IlsGlide w (every_code w) refl refl
judgement_by_lem Kind.IlsFrequency w = refl
judgement_by_lem Kind.MlsFrequency w = refl
judgement_by_lem Kind.MlsAzimuthDeviation w = coded Kind.MlsAzimuthDeviation w (every_code w) refl refl
judgement_by_lem Kind.MlsGlideDeviation w = coded Kind.MlsGlideDeviation w (every_code w) refl refl
judgement_by_lem Kind.SelectedAzimuth w = judged_by (asked Kind.SelectedAzimuth) w (every_code w) refl one-odd
judgement_by_lem Kind.GreatestGlideAngle w = judged_by (asked Kind.GreatestGlideAngle) w (every_code w) (any-setting w) refl
judgement_by_lem Kind.SelectedGlideAngle w = coded Kind.SelectedGlideAngle w (every_code w) refl refl
judgement_by_lem Kind.Part1 w = coded Kind.Part1 w (part Kind.Part1 0 w tt) refl refl
judgement_by_lem Kind.Part2 w = coded Kind.Part2 w (part Kind.Part2 1 w tt) refl refl
judgement_by_lem Kind.Part3 w = coded Kind.Part3 w (part Kind.Part3 2 w tt) refl refl
judgement_by_lem Kind.Part4 w = coded Kind.Part4 w (part Kind.Part4 3 w tt) refl refl

pub count_by_lem : (w : ℕ) (k : Kind) → count_by (asked k) w ≡ count_in (measurement_of (body_of k w))
count_by_lem w = agree (λ k. count_by (asked k) w) (λ k. count_in (measurement_of (body_of k w))) refl

clear-answer : (k : Kind) (w : ℕ) → clear_answer (asked k) w ≡ answer_in (decode_clear k w)
clear-answer k w = ap₂ judged_answer (judgement_by_lem k w) (count_by_lem w k) ∙ judged-answer (judgement (rules k w)) (record_of k w)

pub known-answer : (k : Kind) (w : ℕ) → known_answer (asked k) w ≡ answer_in (decode_as (Some k) w)
known-answer k w =
    tested (odd w) _ (decode_found (Some k) w) Refusal.Parity
    (ap (λ (b : Bool). cond b (clear_answer (asked k) w) (refused Refusal.ZeroBit)) (cleared k w)
    ∙ tested (clear (word_layout k) w) (clear_answer (asked k) w) (decode_clear k w) Refusal.ZeroBit (clear-answer k w))

module _ (w : ℕ) (a : Asked) (told : a ≡ asked (candidate (w % 256))) where
  -- the answer to a word with the byte of its candidate's row, and to one with another byte
  pub answer_hit : a.byte ≡ w % 256 → known_answer a w ≡ answer_of w
  answer_hit e =
      ap (λ (x : Asked). known_answer x w) told ∙ known-answer (candidate (w % 256)) w
      ∙ ap (λ (l : Option Kind). answer_in (decode_as l w)) (sym (byte_hit w (ap (λ (x : Asked). x.byte) (sym told) ∙ e)))
