-- How long the line of a word is at most, so that the place behind a whole listing cannot pass the largest number.
-- Assumes nothing.
use Rattle.std.specs.Prelude.{◌≡◌, refl, Bool, true, false, cond, ℕ, suc, ◌+◌, ◌-◌, ◌*◌, ◌/◌, ◌%◌, ◌^◌, ◌≤◌, ◌<◌, ltb, ℤ, nat_abs, length, Some, Result, Ok, Err}
use Rattle.std.proofs.Math.Path.{subst⁻¹}
use Rattle.std.proofs.Common.{mod-lt, div-le_self, lt_of_le_of_lt, arith, lit<, length-append}
use Rattle.std.specs.Int.Signed.{nat_abs-le}
use Rattle.bits.specs.Fields.{bits}
use Rattle.bits.specs.Complement.{signed, signed-holds}
use Rattle.rounding.specs.Rounding.{round_even}
use Rattle.rounding.specs.Parts as parts
use Rattle.frequencies.specs.Frequencies.{frequency_of, tens_le, offset-le, frequency_in}
use Rattle.refusals.specs.Numbers.{number_of}
use Rattle.refusals.proofs.Numbers.{number-bounds}
use Rattle.frequencies.specs.declared.Band.{Band}
use Rattle.records.specs.declared.Kind.{Kind}
use Rattle.records.specs.declared.Record.{Record}
use Rattle.refusals.specs.declared.Refusal.{Refusal}
use Rattle.statuses.specs.declared.Status.{Status}
use Rattle.labels.proofs.Assignment.{document01}
use Rattle.labels.specs.Label.{label_of}
use Rattle.decode.specs.Rules.{body_of}
use Rattle.decode.specs.Decode.{decode_of}
use Rattle.roundtrip.specs.Reading.{accepted}
use Rattle.quantities.specs.Nearest.{millionths_of}
use Rattle.quantities.specs.Scale.{scale_of}
use Rattle.quantities.specs.declared.Quantity.{Quantity}
use Rattle.text.specs.Ascii.{ascii}
use Rattle.numerals.specs.Digits.{decimal, fixed, sign}
use Rattle.numerals.specs.Theorems.{decimal-length, fixed-length}
use Rattle.columns.specs.Columns.{whole_figure, signed_figure, status_columns, part_columns, columns_of}
use Rattle.columns.specs.declared.Figure.{Figure}
use Rattle.columns.specs.declared.Columns.{Columns}
use Rattle.word_lines.specs.WordLines.{mark_text, figure_text, record_line, refused_line, decoded_line, word_line}

-- ---- figures

record Narrow (f : Figure) : Type 0 where
  within : length (figure_text (Some f)) ≤ 12

sign-length : (b : Bool) → length (sign b) ≤ 1
sign-length true = omega arith
sign-length false = omega arith

number-length : (negative : Bool) (k places n : ℕ) → n / 10 ^ places < 10 ^ suc k → length (figure_text (Some (record { negative = negative; places = places; size = n }))) ≤ suc k + 2 + places
number-length negative k places n h = omega (arith, length-append (sign negative) (fixed places n), sign-length negative, fixed-length k places n h)

-- frequencies, settings and contents are below a million
whole_length : (places n : ℕ) → places ≤ 2 → n < 10 ^ 6 → Narrow (whole_figure places n)
whole_length places n p h = record { within = omega (arith, number-length false 5 places n (lt_of_le_of_lt (div-le_self n (10 ^ places)) h)) }

round_above : (n d : ℕ) → round_even n d ≤ n / d + 1
unfolding round_even
round_above n d = go (ltb (n % d) (d - n % d)) (ltb (d - n % d) (n % d))
  where
    go : (b c : Bool) → cond b (n / d) (cond c (n / d + 1) (n / d + n / d % 2)) ≤ n / d + 1
    go true c = omega arith
    go false true = omega arith
    go false false = omega arith

-- the value of a count lies below ten thousand units
count-length : (q : Quantity) (c : ℤ) → nat_abs c * (scale_of q).numerator / (scale_of q).denominator + 1 < 10 ^ 10 → Narrow (signed_figure 6 (millionths_of q c))
unfolding millionths_of
count-length q c h =
    let size : ℕ = round_even (nat_abs c * (scale_of q).numerator) (scale_of q).denominator in
    let r : size < 10 ^ 10 = lt_of_le_of_lt (round_above (nat_abs c * (scale_of q).numerator) (scale_of q).denominator) h in
    let s : nat_abs (millionths_of q c) ≡ size = parts.nat_abs_with_sign (parts.is_negative c) size in
    record { within = omega (arith, number-length (parts.is_negative (millionths_of q c)) 3 6 (nat_abs (millionths_of q c)) (omega arith)) }

thirteen : (w : ℕ) → nat_abs (signed 13 (bits 17 29 w)) ≤ 4096
thirteen w = nat_abs-le (signed 13 (bits 17 29 w)) (signed-holds 13 (bits 17 29 w) (lit< tt) (mod-lt (w / 2 ^ 16) (lit< tt)))

sixteen : (w : ℕ) → nat_abs (signed 16 (bits 14 29 w)) ≤ 32768
sixteen w = nat_abs-le (signed 16 (bits 14 29 w)) (signed-holds 16 (bits 14 29 w) (lit< tt) (mod-lt (w / 2 ^ 13) (lit< tt)))

frequency_small : (b : Band) (hundredths tenths units tens : ℕ) → hundredths < 16 → tenths < 16 → units < 16 → tens < 8 → frequency_of b hundredths tenths units tens < 10 ^ 6
frequency_small b h t u c x y z v = omega (arith, tens_le b c, offset-le b)

frequency_in_lem : (b : Band) (w : ℕ) → frequency_in b w < 10 ^ 6
frequency_in_lem b w =
    frequency_small b (bits 15 18 w) (bits 19 22 w) (bits 23 26 w) (bits 27 29 w) (mod-lt (w / 2 ^ 14) (lit< tt)) (mod-lt (w / 2 ^ 18) (lit< tt)) (mod-lt (w / 2 ^ 22) (lit< tt)) (mod-lt (w / 2 ^ 26) (lit< tt))

-- ---- the status or part with the figure

record Short (c : Columns) : Type 0 where
  within : length (mark_text c.mark) + length (figure_text c.figure) ≤ 17

status_short : (s : Status) {f : Figure} → Narrow f → Short (status_columns s f)
status_short Status.Failure h = record { within = omega arith }
status_short Status.NoData h = record { within = omega arith }
status_short Status.Test h = record { within = omega (arith, h.within) }
status_short Status.Ready h = record { within = omega (arith, h.within) }

part_short : (part content : ℕ) → part < 10 → content < 10 ^ 6 → Short (part_columns part content)
part_short part content p h = record {
  within = omega (arith, length-append (ascii "part") (decimal part), decimal-length 0 part p, (whole_length 0 content (omega arith) h).within);
}

columns_short : (k : Kind) (w : ℕ) → Short (columns_of (body_of k w))
columns_short Kind.VorAzimuth w = status_short _ (count-length Quantity.Azimuth (signed 13 (bits 17 29 w)) (omega (arith, thirteen w)))
columns_short Kind.VorFrequency w = status_short _ (whole_length 2 _ (omega arith) (frequency_in_lem Band.Vor w))
columns_short Kind.IlsCourse w = status_short _ (count-length Quantity.Course (signed 13 (bits 17 29 w)) (omega (arith, thirteen w)))
columns_short Kind.IlsGlide w = status_short _ (count-length Quantity.Glide (signed 13 (bits 17 29 w)) (omega (arith, thirteen w)))
columns_short Kind.IlsFrequency w = status_short _ (whole_length 2 _ (omega arith) (frequency_in_lem Band.Ils w))
columns_short Kind.MlsFrequency w = status_short _ (whole_length 2 _ (omega arith) (frequency_in_lem Band.Mls w))
columns_short Kind.MlsAzimuthDeviation w = status_short _ (count-length Quantity.MlsAzimuth (signed 16 (bits 14 29 w)) (omega (arith, sixteen w)))
columns_short Kind.MlsGlideDeviation w = status_short _ (count-length Quantity.MlsGlide (signed 16 (bits 14 29 w)) (omega (arith, sixteen w)))
columns_short Kind.SelectedAzimuth w = status_short _ (whole_length 0 (bits 20 28 w) (omega arith) (omega arith))
columns_short Kind.GreatestGlideAngle w = status_short _ (whole_length 1 (bits 20 27 w) (omega arith) (omega arith))
columns_short Kind.SelectedGlideAngle w = status_short _ (whole_length 1 (bits 20 28 w) (omega arith) (omega arith))
columns_short Kind.Part1 w = part_short 1 (bits 14 21 w + 256 * bits 22 29 w) (omega arith) (omega arith)
columns_short Kind.Part2 w = part_short 2 (bits 14 29 w) (omega arith) (omega arith)
columns_short Kind.Part3 w = part_short 3 (bits 14 29 w) (omega arith) (omega arith)
columns_short Kind.Part4 w = part_short 4 (bits 14 29 w) (omega arith) (omega arith)

-- ---- the lines

record_short : (label source : ℕ) (c : Columns) → source < 10 → Short c → length (record_line label source c) ≤ 25
record_short label source c s h = simp length-append (omega (arith, h.within, decimal-length 0 source s))

refused-length : (f : Refusal) → length (refused_line f) ≤ 11
refused-length f = simp length-append (omega (arith, decimal-length 1 (number_of f) (omega (arith, (number-bounds f).1))))

pub word_line_length : (w : ℕ) → length (word_line w) ≤ 25
word_line_length w = go (decode_of w) refl
  where
    go : (d : Result Record Refusal) → decode_of w ≡ d → length (decoded_line d (label_of w)) ≤ 25
    go (Ok r) e =
        let a = accepted document01 w r e in
        subst⁻¹ (λ (x : Record). length (decoded_line (Ok x) (label_of w)) ≤ 25) a.2
        (record_short (label_of w) (bits 9 10 w) (columns_of (body_of a.0 w)) (omega arith) (columns_short a.0 w))
    go (Err f) e = omega (arith, refused-length f)
