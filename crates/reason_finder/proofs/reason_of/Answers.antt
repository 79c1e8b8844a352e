-- `reason_finder::reason_of`: the reasons before the one that is given do not agree, and it does.
use mathlib.Core.Path.{refl}
use mir.Facts.{to_z-of_z}
use lib.ListN.{drop}
use Rattle.reasons.specs.Scaled.{asked}
use Rattle.reasons.specs.declared.Reason.{Reason}
use Rattle.reason_finder.proofs.First.{yes, no, first}
use Rattle.reason_finder.proofs.reason_of.Goals as goal

pub returns-then-reason_agrees : goal.returns-then-reason_agrees
returns-then-reason_agrees c =
    let a = c.args in
    let count = to_z-of_z c.ranges.count in
    let figure = to_z-of_z c.ranges.millionths in
    first a.quantity a.count a.millionths
    (yes a.quantity count figure Reason.Agrees c.reason_agrees.ensures (drop 1 asked) c.if-reason_agrees.true)

pub returns-then-reason_agrees-2 : goal.returns-then-reason_agrees-2
returns-then-reason_agrees-2 c =
    let a = c.args in
    let count = to_z-of_z c.ranges.count in
    let figure = to_z-of_z c.ranges.millionths in
    first a.quantity a.count a.millionths
    (no a.quantity count figure Reason.Agrees c.reason_agrees.ensures (drop 1 asked) c.if-reason_agrees.false
    (yes a.quantity count figure Reason.Tenth c.reason_agrees-2.ensures (drop 2 asked) c.if-reason_agrees-2.true))

pub returns-then-reason_agrees-3 : goal.returns-then-reason_agrees-3
returns-then-reason_agrees-3 c =
    let a = c.args in
    let count = to_z-of_z c.ranges.count in
    let figure = to_z-of_z c.ranges.millionths in
    first a.quantity a.count a.millionths
    (no a.quantity count figure Reason.Agrees c.reason_agrees.ensures (drop 1 asked) c.if-reason_agrees.false
    (no a.quantity count figure Reason.Tenth c.reason_agrees-2.ensures (drop 2 asked) c.if-reason_agrees-2.false
    (yes a.quantity count figure Reason.Hundredth c.reason_agrees-3.ensures (drop 3 asked) c.if-reason_agrees-3.true)))

pub returns-then-reason_agrees-4 : goal.returns-then-reason_agrees-4
returns-then-reason_agrees-4 c =
    let a = c.args in
    let count = to_z-of_z c.ranges.count in
    let figure = to_z-of_z c.ranges.millionths in
    first a.quantity a.count a.millionths
    (no a.quantity count figure Reason.Agrees c.reason_agrees.ensures (drop 1 asked) c.if-reason_agrees.false
    (no a.quantity count figure Reason.Tenth c.reason_agrees-2.ensures (drop 2 asked) c.if-reason_agrees-2.false
    (no a.quantity count figure Reason.Hundredth c.reason_agrees-3.ensures (drop 3 asked) c.if-reason_agrees-3.false
    (yes a.quantity count figure Reason.Thousandth c.reason_agrees-4.ensures (drop 4 asked) c.if-reason_agrees-4.true))))

pub returns-then-reason_agrees-5 : goal.returns-then-reason_agrees-5
returns-then-reason_agrees-5 c =
    let a = c.args in
    let count = to_z-of_z c.ranges.count in
    let figure = to_z-of_z c.ranges.millionths in
    first a.quantity a.count a.millionths
    (no a.quantity count figure Reason.Agrees c.reason_agrees.ensures (drop 1 asked) c.if-reason_agrees.false
    (no a.quantity count figure Reason.Tenth c.reason_agrees-2.ensures (drop 2 asked) c.if-reason_agrees-2.false
    (no a.quantity count figure Reason.Hundredth c.reason_agrees-3.ensures (drop 3 asked) c.if-reason_agrees-3.false
    (no a.quantity count figure Reason.Thousandth c.reason_agrees-4.ensures (drop 4 asked) c.if-reason_agrees-4.false
    (yes a.quantity count figure Reason.TenTimes c.reason_agrees-5.ensures (drop 5 asked) c.if-reason_agrees-5.true)))))

pub returns-then-reason_agrees-6 : goal.returns-then-reason_agrees-6
returns-then-reason_agrees-6 c =
    let a = c.args in
    let count = to_z-of_z c.ranges.count in
    let figure = to_z-of_z c.ranges.millionths in
    first a.quantity a.count a.millionths
    (no a.quantity count figure Reason.Agrees c.reason_agrees.ensures (drop 1 asked) c.if-reason_agrees.false
    (no a.quantity count figure Reason.Tenth c.reason_agrees-2.ensures (drop 2 asked) c.if-reason_agrees-2.false
    (no a.quantity count figure Reason.Hundredth c.reason_agrees-3.ensures (drop 3 asked) c.if-reason_agrees-3.false
    (no a.quantity count figure Reason.Thousandth c.reason_agrees-4.ensures (drop 4 asked) c.if-reason_agrees-4.false
    (no a.quantity count figure Reason.TenTimes c.reason_agrees-5.ensures (drop 5 asked) c.if-reason_agrees-5.false
    (yes a.quantity count figure Reason.HundredTimes c.reason_agrees-6.ensures (drop 6 asked) c.if-reason_agrees-6.true))))))

pub returns-then-reason_agrees-7 : goal.returns-then-reason_agrees-7
returns-then-reason_agrees-7 c =
    let a = c.args in
    let count = to_z-of_z c.ranges.count in
    let figure = to_z-of_z c.ranges.millionths in
    first a.quantity a.count a.millionths
    (no a.quantity count figure Reason.Agrees c.reason_agrees.ensures (drop 1 asked) c.if-reason_agrees.false
    (no a.quantity count figure Reason.Tenth c.reason_agrees-2.ensures (drop 2 asked) c.if-reason_agrees-2.false
    (no a.quantity count figure Reason.Hundredth c.reason_agrees-3.ensures (drop 3 asked) c.if-reason_agrees-3.false
    (no a.quantity count figure Reason.Thousandth c.reason_agrees-4.ensures (drop 4 asked) c.if-reason_agrees-4.false
    (no a.quantity count figure Reason.TenTimes c.reason_agrees-5.ensures (drop 5 asked) c.if-reason_agrees-5.false
    (no a.quantity count figure Reason.HundredTimes c.reason_agrees-6.ensures (drop 6 asked) c.if-reason_agrees-6.false
    (yes a.quantity count figure Reason.ThousandTimes c.reason_agrees-7.ensures (drop 7 asked) c.if-reason_agrees-7.true)))))))

pub returns-then-reason_agrees-8 : goal.returns-then-reason_agrees-8
returns-then-reason_agrees-8 c =
    let a = c.args in
    let count = to_z-of_z c.ranges.count in
    let figure = to_z-of_z c.ranges.millionths in
    first a.quantity a.count a.millionths
    (no a.quantity count figure Reason.Agrees c.reason_agrees.ensures (drop 1 asked) c.if-reason_agrees.false
    (no a.quantity count figure Reason.Tenth c.reason_agrees-2.ensures (drop 2 asked) c.if-reason_agrees-2.false
    (no a.quantity count figure Reason.Hundredth c.reason_agrees-3.ensures (drop 3 asked) c.if-reason_agrees-3.false
    (no a.quantity count figure Reason.Thousandth c.reason_agrees-4.ensures (drop 4 asked) c.if-reason_agrees-4.false
    (no a.quantity count figure Reason.TenTimes c.reason_agrees-5.ensures (drop 5 asked) c.if-reason_agrees-5.false
    (no a.quantity count figure Reason.HundredTimes c.reason_agrees-6.ensures (drop 6 asked) c.if-reason_agrees-6.false
    (no a.quantity count figure Reason.ThousandTimes c.reason_agrees-7.ensures (drop 7 asked) c.if-reason_agrees-7.false
    (yes a.quantity count figure Reason.OtherSign c.reason_agrees-8.ensures (drop 8 asked) c.if-reason_agrees-8.true))))))))

pub returns : goal.returns
returns c =
    let a = c.args in
    let count = to_z-of_z c.ranges.count in
    let figure = to_z-of_z c.ranges.millionths in
    first a.quantity a.count a.millionths
    (no a.quantity count figure Reason.Agrees c.reason_agrees.ensures (drop 1 asked) c.if-reason_agrees.false
    (no a.quantity count figure Reason.Tenth c.reason_agrees-2.ensures (drop 2 asked) c.if-reason_agrees-2.false
    (no a.quantity count figure Reason.Hundredth c.reason_agrees-3.ensures (drop 3 asked) c.if-reason_agrees-3.false
    (no a.quantity count figure Reason.Thousandth c.reason_agrees-4.ensures (drop 4 asked) c.if-reason_agrees-4.false
    (no a.quantity count figure Reason.TenTimes c.reason_agrees-5.ensures (drop 5 asked) c.if-reason_agrees-5.false
    (no a.quantity count figure Reason.HundredTimes c.reason_agrees-6.ensures (drop 6 asked) c.if-reason_agrees-6.false
    (no a.quantity count figure Reason.ThousandTimes c.reason_agrees-7.ensures (drop 7 asked) c.if-reason_agrees-7.false
    (no a.quantity count figure Reason.OtherSign c.reason_agrees-8.ensures (drop 8 asked) c.if-reason_agrees-8.false refl))))))))
