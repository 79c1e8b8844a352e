-- By the record's view (`arm`): the value's reading put under the status, and none of a part.
use mathlib.Core.Path.{◌≡◌, sym, ap, subst, subst⁻¹, ◌∙◌}
use Rattle.records.specs.declared.Body.{Body}
use Rattle.views.specs.Views.{view_of}
use Rattle.views.specs.declared.View.{View}
use Rattle.readings.specs.Readings.{shown_under, shown_in, reading_of}
use Rattle.readings.specs.Meaning.{Reads, ViewReads, Shows}
use Rattle.readings.proofs.Meaning.{shows_right}
use Rattle.readings.specs.declared.Shown.{Shown}
use Rattle.record_readings.proofs.reading_of.Goals as goal

-- what the definition gives of the view is what the contract asks of the body
arm : (b : Body) {view : View} {shown : Shown} → view_of b ≡ view → ViewReads view → shown ≡ shown_in view → (shown ≡ reading_of b) × Shows b shown
arm b {view} {shown} e h p =
    let q : shown ≡ reading_of b = p ∙ ap shown_in (sym e) in
    (q, subst⁻¹ (Shows b) q (shows_right b (subst⁻¹ ViewReads e h)))

pub returns-in-Value-clause-values : goal.returns-in-Value-clause-values
returns-in-Value-clause-values c =
    let read = c.value_reading.ensures in
    (arm c.args.body (sym c.view_of.ensures ∙ c.in-Value.is) (subst (Reads c.in-Value.value) read.operations read.values) (c.shown_under.ensures ∙ ap (shown_under c.in-Value.status) read.operations)).1
