-- Coding a figure: the refusals in the order 2, 4, 8, or the ready word of the nearest count. Stated over any assignment of labels.
-- Assumes nothing.
use Rattle.std.specs.Prelude.{false, cond, ℕ, leb, ℤ, Option, Some, None, Result, Ok, Err}
use Rattle.records.specs.declared.Body.{Body}
use Rattle.records.specs.declared.Kind.{Kind}
use Rattle.codes.specs.declared.Marker.{Marker}
use Rattle.records.specs.declared.Record.{Record}
use Rattle.refusals.specs.declared.Refusal.{Refusal}
use Rattle.statuses.specs.declared.Status.{Status}
use Rattle.labels.specs.Assignment.{Assignment}
use Rattle.labels.proofs.Assignment.{document01}
use Rattle.encode.specs.Encode.{word_as}
use Rattle.quantities.specs.Nearest.{nearest_count}
use Rattle.quantities.specs.declared.Quantity.{Quantity}

-- the kinds of word that measure a quantity
abbrev pub quantity_of : Kind → Option Quantity
quantity_of Kind.VorAzimuth = Some Quantity.Azimuth
quantity_of Kind.VorFrequency = None
quantity_of Kind.IlsCourse = Some Quantity.Course
quantity_of Kind.IlsGlide = Some Quantity.Glide
quantity_of Kind.IlsFrequency = None
quantity_of Kind.MlsFrequency = None
quantity_of Kind.MlsAzimuthDeviation = Some Quantity.MlsAzimuth
quantity_of Kind.MlsGlideDeviation = Some Quantity.MlsGlide
quantity_of Kind.SelectedAzimuth = None
quantity_of Kind.GreatestGlideAngle = None
quantity_of Kind.SelectedGlideAngle = None
quantity_of Kind.Part1 = None
quantity_of Kind.Part2 = None
quantity_of Kind.Part3 = None
quantity_of Kind.Part4 = None

-- and the kind of word that a quantity has
abbrev pub kind_for : Quantity → Kind
kind_for Quantity.Azimuth = Kind.VorAzimuth
kind_for Quantity.Course = Kind.IlsCourse
kind_for Quantity.Glide = Kind.IlsGlide
kind_for Quantity.MlsAzimuth = Kind.MlsAzimuthDeviation
kind_for Quantity.MlsGlide = Kind.MlsGlideDeviation

-- the label of a quantity
abbrev pub label_for : Assignment → Quantity → ℕ
label_for a q = a.label (kind_for q)

abbrev pub quantity_found : Option Kind → Option Quantity
quantity_found (Some k) = quantity_of k
quantity_found None = None

-- the quantity that words of a label measure
abbrev pub quantity_at : Assignment → ℕ → Option Quantity
quantity_at a label = quantity_found (a.kind label)

-- a ready word's body: every field but the count is zero
abbrev pub ready_body : Quantity → ℤ → Body
ready_body Quantity.Azimuth c = Body.VorAzimuth Status.Ready Marker.None (record { 0 = c })
ready_body Quantity.Course c = Body.IlsCourse Status.Ready false (record { 0 = c })
ready_body Quantity.Glide c = Body.IlsGlide Status.Ready false (record { 0 = c })
ready_body Quantity.MlsAzimuth c = Body.MlsAzimuthDeviation Status.Ready false false (record { 0 = c })
ready_body Quantity.MlsGlide c = Body.MlsGlideDeviation Status.Ready false false (record { 0 = c })

-- a ready record of this source and count
abbrev pub ready_record : Quantity → ℕ → ℤ → Record
ready_record q source c = record { source = source; body = ready_body q c }

-- the word of the nearest count under a label, or 8
abbrev pub coded_nearest : Quantity → ℕ → ℕ → Option ℤ → Result ℕ Refusal
coded_nearest q label source (Some c) = Ok (word_as label (ready_record q source c))
coded_nearest q label source None = Err Refusal.Reach

-- a figure of a quantity, in millionths, under a label and a source: 4 if the source is above 3
abbrev pub coded_under : Quantity → ℕ → ℕ → ℤ → Result ℕ Refusal
coded_under q label source figure =
    cond (leb source 3) (coded_nearest q label source (nearest_count q figure)) (Err Refusal.Code)

abbrev pub coded_measured : Option Quantity → ℕ → ℕ → ℤ → Result ℕ Refusal
coded_measured (Some q) label source figure = coded_under q label source figure
coded_measured None label source figure = Err Refusal.Label

-- a figure of the quantity that words of the label measure: 2 if the label is unknown or measures nothing
abbrev pub coded_with : Assignment → ℕ → ℕ → ℤ → Result ℕ Refusal
coded_with a label source figure = coded_measured (quantity_at a label) label source figure

-- under document 01's labels
abbrev pub coded_of : ℕ → ℕ → ℤ → Result ℕ Refusal
coded_of label source figure = coded_with document01 label source figure
