-- By the nine reasons.
use mathlib.Core.Path.{sym, ap}
use Rattle.text.specs.Writing.{named}
use Rattle.reason_texts.specs.ReasonTexts.{reason_text}
use Rattle.reason_texts.proofs.put_reason.Goals as goal

pub returns-in-Tenth : goal.returns-in-Tenth
returns-in-Tenth c =
    named c.put_text-in-Tenth.ensures (ap reason_text (sym c.in-Tenth.is))

pub returns-in-HundredTimes : goal.returns-in-HundredTimes
returns-in-HundredTimes c =
    named c.put_text-in-HundredTimes.ensures (ap reason_text (sym c.in-HundredTimes.is))

pub returns-in-OtherSign : goal.returns-in-OtherSign
returns-in-OtherSign c =
    named c.put_text-in-OtherSign.ensures (ap reason_text (sym c.in-OtherSign.is))
