-- A word's record, or its refusal: the tests in document 01's order, 1, 2, 3, 5, 4, 6, 7.
-- Assumes nothing.
use Rattle.std.specs.Prelude.{◌≡◌, true, false, cond, ℕ, Option, Some, None, Result, Ok, Err}
use Rattle.bits.specs.Fields.{bits}
use Rattle.bits.specs.Layout.{clear}
use Rattle.bits.specs.Parity.{odd}
use Rattle.records.specs.Layouts.{word_layout}
use Rattle.records.specs.declared.Kind.{Kind}
use Rattle.records.specs.declared.Record.{Record}
use Rattle.refusals.specs.declared.Refusal.{Refusal}
use Rattle.labels.specs.Label.{label_of}
use Rattle.labels.specs.Assignment.{Assignment}
use Rattle.labels.proofs.Assignment.{document01}
use Rattle.decode.specs.Rules.{Rules, rules, body_of}

-- the first of the four tests that fails: digits, codes, value, angle parity
abbrev pub judgement : Rules → Result Unit Refusal
judgement r =
    cond r.digits
    (cond r.codes
    (cond r.value (cond r.angle (Ok tt) (Err Refusal.AngleParity)) (Err Refusal.Value))
    (Err Refusal.Code))
    (Err Refusal.Digit)

abbrev pub record_of : Kind → ℕ → Record
record_of k w = record { source = bits 9 10 w; body = body_of k w }

abbrev pub judged : Result Unit Refusal → Record → Result Record Refusal
judged (Ok tt) r = Ok r
judged (Err f) r = Err f

-- a word of a known kind whose zero bits are zero
abbrev pub decode_clear : Kind → ℕ → Result Record Refusal
decode_clear k w = judged (judgement (rules k w)) (record_of k w)

-- a word of a known kind
abbrev pub decode_kind : Kind → ℕ → Result Record Refusal
decode_kind k w = cond (clear (word_layout k) w) (decode_clear k w) (Err Refusal.ZeroBit)

-- a word whose label stands for a kind or for none
abbrev pub decode_found : Option Kind → ℕ → Result Record Refusal
decode_found (Some k) w = decode_kind k w
decode_found None w = Err Refusal.Label

-- a word whose label was looked up: the parity comes first
abbrev pub decode_as : Option Kind → ℕ → Result Record Refusal
decode_as l w = cond (odd w) (decode_found l w) (Err Refusal.Parity)

-- a word, under an assignment of labels
abbrev pub decode_with : Assignment → ℕ → Result Record Refusal
decode_with a w = decode_as (a.kind (label_of w)) w

-- a word, under document 01's labels
abbrev pub decode_of : ℕ → Result Record Refusal
decode_of w = decode_with document01 w

-- ---- one step of the order at a time

pub codes_kept : (r : Rules) → r.digits ≡ true → r.codes ≡ true → r.angle ≡ true → judgement r ≡ cond r.value (Ok tt) (Err Refusal.Value)
codes_kept r d c a = rw (d, c, a)

pub zeros_broken : (k : Kind) (w : ℕ) → clear (word_layout k) w ≡ false → decode_kind k w ≡ Err Refusal.ZeroBit
zeros_broken k w z = rw z

pub zeros-kept : (k : Kind) (w : ℕ) → clear (word_layout k) w ≡ true → decode_kind k w ≡ decode_clear k w
zeros-kept k w z = rw z

pub parity_kept : (l : Option Kind) (w : ℕ) → odd w ≡ true → decode_as l w ≡ decode_found l w
parity_kept l w p = rw p
