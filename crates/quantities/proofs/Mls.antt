-- How far the MLS figures reach, in millionths (request 3 of document 02).
use Rattle.std.specs.Prelude.{◌≡◌, refl, ◌↔◌, ◌<◌, ℤ, pos, negsuc, nat_abs, None}
use Rattle.std.proofs.Common.{inl, inr, arith, lt→ltb}
use Rattle.rounding.specs.Parts.{is_negative}
use Rattle.quantities.specs.declared.Quantity.{Quantity}
use Rattle.quantities.specs.declared.Quantity.TheVariants.{MlsAzimuth, MlsGlide}
use Rattle.quantities.specs.Scale.{mls_scale, sound}
use Rattle.quantities.specs.Nearest.{reach, line_nearest, nearest_count}
use Rattle.quantities.specs.Cases.{nearest_line}
use Rattle.quantities.specs.Line.{line_past}
use Rattle.quantities.specs.Mls.{IsMls, BeyondMls, past}

beyond : (figure : ℤ) → reach mls_scale (is_negative figure) < nat_abs figure → BeyondMls figure
beyond (pos n) h = inr (record { lt = lt→ltb 2399963378 n (omega (arith, h)) })
beyond (negsuc n) h = inl (record { lt = lt→ltb 2400036620 n (omega (arith, h)) })

on_scale : (figure : ℤ) → (line_nearest mls_scale (is_negative figure) (nat_abs figure) ≡ None) ↔ BeyondMls figure
on_scale figure =
    let refused = line_past mls_scale (sound MlsAzimuth) figure in
    (λ e. beyond figure (refused.0 e), λ b. refused.1 (past figure b))

-- "The figure 2399963378 is coded and 2399963379 refused; -2400036621 is coded and -2400036622 refused": a figure is out of reach exactly past these
pub mls-reach : (q : Quantity) → IsMls q → (figure : ℤ) → (nearest_count q figure ≡ None) ↔ BeyondMls figure
mls-reach q (inl e) figure = rw (e, nearest_line MlsAzimuth figure refl) (on_scale figure)
mls-reach q (inr e) figure = rw (e, nearest_line MlsGlide figure refl) (on_scale figure)
