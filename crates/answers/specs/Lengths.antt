-- How long an answer is at most, so that a buffer can be given that holds the answers to many lines.
-- Assumes nothing.
use Rattle.std.specs.Prelude.{◌≡◌, refl, Bool, true, false, cond, ◌++◌, ℕ, ◌+◌, ◌/◌, ◌^◌, ◌≤◌, ◌<◌, eqb, ℤ, nat_abs, length, Option, Some, None, Result, Ok, Err}
use Rattle.std.proofs.Common.{mod-lt, arith, lit<, length-append}
use Rattle.std.proofs.Math.Path.{subst⁻¹}
use Rattle.std.specs.Int.Signed.{nat_abs-le}
use Rattle.bits.specs.Fields.{bits}
use Rattle.bits.specs.Complement.{signed, signed-holds}
use Rattle.rounding.specs.Parts.{is_negative}
use Rattle.refusals.specs.Numbers.{number_of}
use Rattle.refusals.proofs.Numbers.{number-bounds}
use Rattle.labels.proofs.Assignment.{document01}
use Rattle.labels.specs.Label.{label_of}
use Rattle.decode.specs.Decode.{decode_of}
use Rattle.records.specs.declared.Record.{Record}
use Rattle.refusals.specs.declared.Refusal.{Refusal}
use Rattle.quantities.specs.Sizes.{printed-size}
use Rattle.quantities.specs.declared.Quantity.{Quantity}
use Rattle.figures.specs.Coding.{quantity_at}
use Rattle.figures.specs.Demand.{count_bits}
use Rattle.agreements.specs.Agreement.{decoded_measurement, word_measurement}
use Rattle.agreements.specs.Agreeing.{held, accepted-held}
use Rattle.signed_numbers.specs.Signed.{Fits, greatest}
use Rattle.reasons.specs.Reasons.{number_of as reasonNumber}
use Rattle.reasons.specs.declared.Reason.{Reason}
use Rattle.text.specs.Ascii.{ascii}
use Rattle.numerals.specs.Digits.{signed_fixed}
use Rattle.numerals.specs.Theorems.{decimal-length, signed-length}
use Rattle.reason_texts.specs.ReasonTexts.{reason_text, because_text}
use Rattle.answers.specs.Answers.{explained_text, figure_for, unread_answer}

-- ---- figures

greatest_within : (b : Bool) → greatest b ≤ 2 ^ 63
greatest_within true = omega arith
greatest_within false = omega arith

-- a figure of 64 bits
pub fits-length : (z : ℤ) → Fits z → length (signed_fixed 6 z) ≤ 21
fits-length z h = omega (arith, signed-length 12 6 z (omega (arith, h, greatest_within (is_negative z))))

-- the count of a word
thirteen : (w : ℕ) → nat_abs (signed 13 (bits 17 29 w)) ≤ 32768
thirteen w = omega (arith, nat_abs-le (signed 13 (bits 17 29 w)) (signed-holds 13 (bits 17 29 w) (lit< tt) (mod-lt (w / 2 ^ 16) (lit< tt))))

sixteen : (w : ℕ) → nat_abs (signed 16 (bits 14 29 w)) ≤ 32768
sixteen w = nat_abs-le (signed 16 (bits 14 29 w)) (signed-holds 16 (bits 14 29 w) (lit< tt) (mod-lt (w / 2 ^ 13) (lit< tt)))

count-size : (q : Quantity) (w : ℕ) → nat_abs (count_bits q w) ≤ 32768
count-size Quantity.Azimuth w = thirteen w
count-size Quantity.Course w = thirteen w
count-size Quantity.Glide w = thirteen w
count-size Quantity.MlsAzimuth w = sixteen w
count-size Quantity.MlsGlide w = sixteen w

-- and what it is printed as
figure_size : (m : Option Quantity) (w : ℕ) → nat_abs (figure_for (held m w)) ≤ 2 ^ 42 + 1
figure_size (Some q) w = printed-size q (count_bits q w) (count-size q w)
figure_size None w = omega arith

pub word_figure_size : (w : ℕ) → nat_abs (figure_for (word_measurement document01 w)) ≤ 2 ^ 42 + 1
word_figure_size w = go (decode_of w) refl
  where
    go : (d : Result Record Refusal) → decode_of w ≡ d → nat_abs (figure_for (decoded_measurement d)) ≤ 2 ^ 42 + 1
    go (Ok r) e = subst⁻¹ (λ (m : Option (Quantity × ℤ)). nat_abs (figure_for m) ≤ 2 ^ 42 + 1) (accepted-held document01 w r e) (figure_size (quantity_at document01 (label_of w)) w)
    go (Err f) e = omega arith

-- ---- answers

reason_length : (r : Reason) → length (reason_text r) ≤ 26
reason_length Reason.Agrees = omega arith
reason_length Reason.Tenth = omega arith
reason_length Reason.Hundredth = omega arith
reason_length Reason.Thousandth = omega arith
reason_length Reason.TenTimes = omega arith
reason_length Reason.HundredTimes = omega arith
reason_length Reason.ThousandTimes = omega arith
reason_length Reason.OtherSign = omega arith
reason_length Reason.NoneOfThese = omega arith

because_length : (r : Reason) (z : ℤ) → length (signed_fixed 6 z) ≤ 15 → length (because_text r z) ≤ 57
because_length r z h = go (eqb (reasonNumber r) 1)
  where
    go : (b : Bool) → length (cond b (reason_text r) (reason_text r ++ ascii "; the word says " ++ signed_fixed 6 z)) ≤ 57
    go true = omega (arith, reason_length r)
    go false = simp length-append (omega (arith, reason_length r, h))

pub explained_length : (x : Result Reason Refusal) (z : ℤ) → length (signed_fixed 6 z) ≤ 15 → length (explained_text x z) ≤ 57
explained_length (Ok r) z h = because_length r z h
explained_length (Err f) z h = simp length-append (omega (arith, decimal-length 1 (number_of f) (omega (arith, (number-bounds f).1))))

pub unread_length : (n : ℕ) → n < 2 ^ 64 → length (unread_answer n) ≤ 47
unread_length n h = simp length-append (omega (arith, decimal-length 19 n (omega arith)))
