-- The list of all kinds, and the place of each: what one computed test or equation of the whole list says of each of them.
-- Assumes nothing.
use Rattle.std.specs.Prelude.{◌≡◌, refl, ℕ, ◌-◌, get_or}
use Rattle.std.proofs.Common.{sym, ap, ◌∙◌}
use Rattle.records.specs.declared.Kind.{Kind}
use Rattle.records.specs.declared.Kind.TheVariants.{VorAzimuth}
use Rattle.records.specs.All.{kinds, agree, place_of}

pub placed : (k : Kind) → get_or kinds (place_of k - 1) VorAzimuth ≡ k
placed = agree (λ k. get_or kinds (place_of k - 1) VorAzimuth) (λ k. k) refl

-- so kinds of one place are one kind
pub one_place : (j k : Kind) → place_of j ≡ place_of k → j ≡ k
one_place j k e = sym (placed j) ∙ ap (λ (n : ℕ). get_or kinds (n - 1) VorAzimuth) e ∙ placed k
