-- What the table's functions cite: a row does not depend on what stands past the end, and a label of the table finds its own kind.
-- Assumes nothing.
use Rattle.std.specs.Prelude.{Some}
use mathlib.Core.Path.{◌≡◌, refl, sym, ap, ◌∙◌}
use mathlib.Core.List.{List, [], ◌∷◌}
use Prim.Native.Nat.{ℕ, zero, suc, ◌<◌, ◌≤◌}
use native.Mathlib.Nat.{le_of_suc-le-suc, not-suc-le-zero}
use lib.ListN.{get_or, length, get_or-map, get_or-eq_default}
use Rattle.records.specs.declared.Kind.{Kind}
use Rattle.labels.specs.declared.Row.{Row}
use Rattle.records.specs.declared.Kind.TheVariants.{VorAzimuth}
use Rattle.records.specs.All.{kinds}
use Rattle.labels.specs.Table.{rows, row_of, kind_at, label_number, find_kind}
use Rattle.labels.proofs.Table.{found}

pub get_or_within : {A : Type 0} (l : List A) (i : ℕ) (d e : A) → i < length l → get_or l i d ≡ get_or l i e
get_or_within [] i d e h = absurd (not-suc-le-zero h)
get_or_within (a ∷ l) zero d e h = refl
get_or_within (a ∷ l) (suc i) d e h = get_or_within l i d e (le_of_suc-le-suc h)

pub hit : {k : Kind} {l : ℕ} → l ≡ label_number k → Some k ≡ find_kind rows l
hit {k} e = sym (ap (find_kind rows) e ∙ found k)

-- the row at a place of the table, and the first one past its end
pub row_within : (p : ℕ) (d : Row) → p < 15 → get_or rows p d ≡ row_of (kind_at p)
row_within p d h = get_or_within rows p d _ h ∙ get_or-map row_of kinds p VorAzimuth

pub row_past : (p : ℕ) → 15 ≤ p → row_of VorAzimuth ≡ row_of (kind_at p)
row_past p h = ap row_of (sym (get_or-eq_default kinds VorAzimuth h))
