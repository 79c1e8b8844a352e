-- How the code finds the answer to a word: by the row of its kind. `AskingLaws` says that this is the single call's answer.
-- Assumes nothing.
use Rattle.std.specs.Prelude.{Bool, cond, ℕ, ◌/◌, ◌%◌, ◌^◌, eqb, leb, ℤ, pos, Result, Ok, Err}
use Rattle.std.specs.Int.Bits.{bit_and}
use Rattle.bits.specs.Complement.{signed}
use Rattle.bits.specs.Fields.{bits}
use Rattle.bits.specs.Parity.{odd}
use Rattle.refusals.specs.Numbers.{number_of}
use Rattle.refusals.specs.declared.Refusal.{Refusal}
use Rattle.frequencies.specs.declared.Band.{Band}
use Rattle.decode.specs.Decode.{judgement}
use Rattle.decode.specs.Rules.{decimal}
use Rattle.pages.specs.declared.Answer.{Answer}
use Rattle.word_rows.specs.declared.Asked.{Asked}

-- bit c of the codes, for the code c at the row's place
abbrev pub is_listed : Asked → ℕ → Bool
is_listed a w = eqb (a.codes / 2 ^ (w / 2 ^ (a.place % 32) % 8) % 2) 1

-- the greatest setting, and the digits whose ones are odd in number: those of the setting, or of 1
abbrev pub most : Asked → ℕ
most a = cond (eqb a.limited 1) 359 511

abbrev pub checked : Asked → ℕ → ℕ
checked a w = cond (eqb a.angle 1) (bits 20 28 w) 1

abbrev pub plain_judgement : Asked → ℕ → Result Unit Refusal
plain_judgement a w =
    cond (is_listed a w)
    (cond (leb (bits 20 28 w) (most a)) (cond (odd (checked a w)) (Ok tt) (Err Refusal.AngleParity)) (Err Refusal.Value))
    (Err Refusal.Code)

abbrev pub by_band : (band : ℕ) → Asked → ℕ → Result Unit Refusal
by_band band a w =
    cond (eqb band 1) (judgement (decimal Band.Vor w))
    (cond (eqb band 2) (judgement (decimal Band.Ils w)) (cond (eqb band 3) (judgement (decimal Band.Mls w)) (plain_judgement a w)))

abbrev pub judgement_by : Asked → ℕ → Result Unit Refusal
judgement_by a w = by_band a.band a w

abbrev pub count_by : Asked → ℕ → ℤ
count_by a w = cond (eqb a.short 1) (signed 13 (bits 17 29 w)) (cond (eqb a.long 1) (signed 16 (bits 14 29 w)) (pos 0))

-- a refused word has no count
abbrev pub refused : Refusal → Answer
refused f = record { refusal = number_of f; count = pos 0 }

abbrev pub judged_answer : Result Unit Refusal → ℤ → Answer
judged_answer (Ok tt) c = record { refusal = 0; count = c }
judged_answer (Err f) c = refused f

abbrev pub clear_answer : Asked → ℕ → Answer
clear_answer a w = judged_answer (judgement_by a w) (count_by a w)

abbrev pub known_answer : Asked → ℕ → Answer
known_answer a w = cond (odd w) (cond (eqb (bit_and w a.zeros) 0) (clear_answer a w) (refused Refusal.ZeroBit)) (refused Refusal.Parity)

abbrev pub unknown_answer : ℕ → Answer
unknown_answer w = cond (odd w) (refused Refusal.Label) (refused Refusal.Parity)
