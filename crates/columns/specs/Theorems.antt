-- A dash stands exactly beside failure and nodata.
-- Assumes nothing.
use Rattle.std.specs.Prelude.{◌≡◌, refl, ◌⊎◌, ◌↔◌, ℕ, None}
use Rattle.std.proofs.Common.{inl, inr, arith}
use Rattle.records.specs.declared.Body.{Body}
use Rattle.statuses.specs.declared.Status.{Status}
use Rattle.views.specs.Views.{view_of}
use Rattle.views.specs.declared.View.{View}
use Rattle.columns.specs.Columns.{figure_of, status_columns, part_columns, columns_in, columns_of}
use Rattle.columns.specs.declared.Mark.{Mark}
use Rattle.columns.specs.declared.Figure.{Figure}
use Rattle.columns.specs.declared.Columns.{Columns}

record DashRight (c : Columns) : Type 0 where
  right : (c.figure ≡ None) ↔ ((c.mark ≡ Mark.Status Status.Failure) ⊎ (c.mark ≡ Mark.Status Status.NoData))

clash : {A : Type 0} → ◌≡◌ {A = ℕ} 0 1 → A
clash z = absurd (omega arith)

status_dash : (s : Status) (f : Figure) → DashRight (status_columns s f)
status_dash Status.Failure f = record { right = (λ e. inl refl, λ e. refl) }
status_dash Status.NoData f = record { right = (λ e. inr refl, λ e. refl) }
status_dash Status.Test f = record { right = (λ e. clash (cc), elim [ inl e ↦ clash (cc) | inr e ↦ clash (cc) ]) }
status_dash Status.Ready f = record { right = (λ e. clash (cc), elim [ inl e ↦ clash (cc) | inr e ↦ clash (cc) ]) }

part_dash : (part content : ℕ) → DashRight (part_columns part content)
part_dash part content = record { right = (λ e. clash (cc), elim [ inl e ↦ clash (cc) | inr e ↦ clash (cc) ]) }

dash : (v : View) → DashRight (columns_in v)
dash (View.Value s v) = status_dash s (figure_of v)
dash (View.Part part content) = part_dash part content

-- of every record
pub dash_exactly : (b : Body) → ((columns_of b).figure ≡ None) ↔ (((columns_of b).mark ≡ Mark.Status Status.Failure) ⊎ ((columns_of b).mark ≡ Mark.Status Status.NoData))
dash_exactly b = (dash (view_of b)).right
