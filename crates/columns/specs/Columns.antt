-- What a line of the listing shows of a record: the status or the part, and the figure.
-- Assumes nothing.
use Rattle.std.specs.Prelude.{false, cond, ℕ, ℤ, nat_abs, Option, Some, None}
use Rattle.rounding.specs.Parts.{is_negative}
use Rattle.records.specs.declared.Body.{Body}
use Rattle.statuses.specs.declared.Status.{Status}
use Rattle.quantities.specs.Nearest.{millionths_of}
use Rattle.quantities.specs.declared.Quantity.{Quantity}
use Rattle.views.specs.Views.{is_shown, view_of}
use Rattle.views.specs.declared.Setting.{Setting}
use Rattle.views.specs.declared.Value.{Value}
use Rattle.views.specs.declared.View.{View}
use Rattle.columns.specs.declared.Mark.{Mark}
use Rattle.columns.specs.declared.Figure.{Figure}
use Rattle.columns.specs.declared.Columns.{Columns}

-- a number of units of 1/10^places
abbrev pub whole_figure : ℕ → ℕ → Figure
whole_figure places n = record { negative = false; places = places; size = n }

abbrev pub signed_figure : ℕ → ℤ → Figure
signed_figure places z = record { negative = is_negative z; places = places; size = nat_abs z }

-- 153 in degrees, 154 and 155 in tenths of a degree
abbrev pub setting_figure : Setting → Figure
setting_figure (Setting.SelectedAzimuth manual degrees) = whole_figure 0 degrees
setting_figure (Setting.GreatestGlideAngle tenths) = whole_figure 1 tenths
setting_figure (Setting.SelectedGlideAngle manual tenths) = whole_figure 1 tenths

-- counts in millionths, frequencies in hundredths of a MHz
abbrev pub figure_of : Value → Figure
figure_of (Value.Azimuth count) = signed_figure 6 (millionths_of Quantity.Azimuth count.0)
figure_of (Value.Course count) = signed_figure 6 (millionths_of Quantity.Course count.0)
figure_of (Value.Glide count) = signed_figure 6 (millionths_of Quantity.Glide count.0)
figure_of (Value.MlsAzimuth count) = signed_figure 6 (millionths_of Quantity.MlsAzimuth count.0)
figure_of (Value.MlsGlide count) = signed_figure 6 (millionths_of Quantity.MlsGlide count.0)
figure_of (Value.Frequency frequency) = whole_figure 2 frequency
figure_of (Value.Setting setting) = setting_figure setting

-- where a status shows no reading there is no figure
abbrev pub figure_under : Status → Figure → Option Figure
figure_under status figure = cond (is_shown status) (Some figure) None

abbrev pub status_columns : Status → Figure → Columns
status_columns status figure = record { mark = Mark.Status status; figure = figure_under status figure }

-- a part shows its number in the status's place, and its content
abbrev pub part_columns : ℕ → ℕ → Columns
part_columns part content = record { mark = Mark.Part part; figure = Some (whole_figure 0 content) }

-- a word with a status shows its value's figure, and a part its content as a number
abbrev pub columns_in : View → Columns
columns_in (View.Value status value) = status_columns status (figure_of value)
columns_in (View.Part part content) = part_columns part content

abbrev pub columns_of : Body → Columns
columns_of body = columns_in (view_of body)
