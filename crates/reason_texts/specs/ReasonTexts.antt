-- The text of a reason, byte by byte.
-- Assumes nothing.
use Rattle.std.specs.Prelude.{◌≡◌, refl, cond, List, ◌++◌, ◌≢◌, ℕ, eqb, ℤ}
use Rattle.std.proofs.Common.{eq-eqb, ne_eqb}
use Rattle.reasons.specs.Reasons.{number_of}
use Rattle.reasons.specs.declared.Reason.{Reason}
use Rattle.text.specs.Ascii.{ascii}
use Rattle.numerals.specs.Digits.{signed_fixed}

abbrev pub reason_text : Reason → List ℕ
reason_text Reason.Agrees = ascii "agrees"
reason_text Reason.Tenth = ascii "a tenth agrees"
reason_text Reason.Hundredth = ascii "a hundredth agrees"
reason_text Reason.Thousandth = ascii "a thousandth agrees"
reason_text Reason.TenTimes = ascii "ten times it agrees"
reason_text Reason.HundredTimes = ascii "a hundred times it agrees"
reason_text Reason.ThousandTimes = ascii "a thousand times it agrees"
reason_text Reason.OtherSign = ascii "the other sign agrees"
reason_text Reason.NoneOfThese = ascii "none of these"

-- behind all but the first stands the word's figure
abbrev pub because_text : Reason → ℤ → List ℕ
because_text r figure = cond (eqb (number_of r) 1) (reason_text r) (reason_text r ++ ascii "; the word says " ++ signed_fixed 6 figure)

-- ---- what the proof of the writer cites

pub because_first : (r : Reason) (figure : ℤ) → number_of r ≡ 1 → reason_text r ≡ because_text r figure
because_first r figure e = rw (eq-eqb (number_of r) 1 e) refl

pub because_other : (r : Reason) (figure : ℤ) → number_of r ≢ 1 → reason_text r ++ ascii "; the word says " ++ signed_fixed 6 figure ≡ because_text r figure
because_other r figure e = rw (ne_eqb (number_of r) 1 e) refl
