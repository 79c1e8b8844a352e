-- The codes of statuses in bits 30 and 31, and what each code means. The lowest bit of a field is its first in document 01's print:
-- "10" is the number 1. A number outside its list is refused with 4 before anyone asks what it means; what it is taken for here is told last.
-- Assumes nothing.
use Rattle.std.specs.Prelude.{◌≡◌, refl, Bool, false, ℕ, zero, suc, ◌≤◌, ◌<◌, ltb}
use Rattle.std.proofs.Common.{sym, arith, lit<}
use Rattle.std.proofs.lemmas.Bool.{false≢true}
use Rattle.statuses.specs.declared.Status.{Status}
use Rattle.statuses.specs.declared.Status.TheVariants.{Failure, NoData, Test, Ready}

-- ---- binary words, bits 30 and 31: 00 failure, 10 nodata, 01 test, 11 ready

abbrev pub binary_code : Status → ℕ
binary_code Failure = 0
binary_code NoData = 1
binary_code Test = 2
binary_code Ready = 3

abbrev pub binary_status : ℕ → Status
binary_status zero = Failure
binary_status (suc zero) = NoData
binary_status (suc (suc zero)) = Test
binary_status (suc (suc (suc n))) = Ready

-- ---- decimal words: 00 ready, 10 nodata, 01 test; 11, ready with a minus, no frequency can have, and failure has no code, so it stands at 11

abbrev pub decimal_code : Status → ℕ
decimal_code Failure = 3
decimal_code NoData = 1
decimal_code Test = 2
decimal_code Ready = 0

abbrev pub decimal_status : ℕ → Status
decimal_status zero = Ready
decimal_status (suc zero) = NoData
decimal_status (suc (suc zero)) = Test
decimal_status (suc (suc (suc n))) = Failure

abbrev pub decimal_listed : ℕ → Bool
decimal_listed c = ltb c 3

-- ---- each code means what it is the code of, and the other way round

pub decimal_code_lem : (c : ℕ) → c < 4 → decimal_code (decimal_status c) ≡ c
decimal_code_lem zero h = refl
decimal_code_lem (suc zero) h = refl
decimal_code_lem (suc (suc zero)) h = refl
decimal_code_lem (suc (suc (suc n))) h = omega arith

pub decimal_status_lem : (s : Status) → decimal_status (decimal_code s) ≡ s
decimal_status_lem Failure = refl
decimal_status_lem NoData = refl
decimal_status_lem Test = refl
decimal_status_lem Ready = refl

-- ---- a number outside its list: every function answers for every number, and these are the answers, by no rule of document 01

abbrev pub unlisted_binary : Status
unlisted_binary = Ready

abbrev pub unlisted_decimal : Status
unlisted_decimal = Failure

-- bits 30 and 31 of a binary word hold no such number
pub binary_unlisted : (c : ℕ) → 4 ≤ c → binary_status c ≡ unlisted_binary
binary_unlisted zero h = absurd (omega arith)
binary_unlisted (suc zero) h = absurd (omega arith)
binary_unlisted (suc (suc zero)) h = absurd (omega arith)
binary_unlisted (suc (suc (suc n))) h = refl

pub decimal_unlisted : (c : ℕ) → decimal_listed c ≡ false → decimal_status c ≡ unlisted_decimal
decimal_unlisted zero h = absurd (false≢true (sym h))
decimal_unlisted (suc zero) h = absurd (false≢true (sym h))
decimal_unlisted (suc (suc zero)) h = absurd (false≢true (sym h))
decimal_unlisted (suc (suc (suc n))) h = refl

-- ---- every code fits its field

pub binary_lt : (s : Status) → binary_code s < 4
binary_lt Failure = lit< tt
binary_lt NoData = lit< tt
binary_lt Test = lit< tt
binary_lt Ready = lit< tt

pub decimal-lt : (s : Status) → decimal_code s < 4
decimal-lt Failure = lit< tt
decimal-lt NoData = lit< tt
decimal-lt Test = lit< tt
decimal-lt Ready = lit< tt
