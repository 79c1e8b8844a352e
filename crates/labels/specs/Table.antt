-- Document 01's table of labels: each kind's label, in octal, and its zero bits.
-- Assumes nothing.
use Rattle.std.specs.Prelude.{◌≡◌, refl, Bool, true, false, cond, List, [], ◌∷◌, map, ℕ, eqb, get_or, Option, Some, None}
use Rattle.std.proofs.Common.{sym, ap, ◌∙◌, arith, eqb-true}
use Rattle.bits.specs.Layout.{mask}
use Rattle.records.specs.All.{kinds}
use Rattle.records.specs.Layouts.{word_layout}
use Rattle.records.specs.declared.Kind.{Kind}
use Rattle.records.specs.declared.Kind.TheVariants.{VorAzimuth, VorFrequency, IlsCourse, IlsGlide, IlsFrequency, MlsFrequency, MlsAzimuthDeviation, MlsGlideDeviation, SelectedAzimuth, GreatestGlideAngle, SelectedGlideAngle, Part1, Part2, Part3, Part4}
use Rattle.labels.specs.Label.{label_of}
use Rattle.labels.specs.declared.Row.{Row}

abbrev pub label_number : Kind → ℕ
label_number VorAzimuth = 0o222
label_number VorFrequency = 0o034
label_number IlsCourse = 0o173
label_number IlsGlide = 0o174
label_number IlsFrequency = 0o033
label_number MlsFrequency = 0o036
label_number MlsAzimuthDeviation = 0o151
label_number MlsGlideDeviation = 0o152
label_number SelectedAzimuth = 0o153
label_number GreatestGlideAngle = 0o154
label_number SelectedGlideAngle = 0o155
label_number Part1 = 0o140
label_number Part2 = 0o141
label_number Part3 = 0o142
label_number Part4 = 0o143

-- the byte that a kind's words have in bits 1 to 8: its label, turned
abbrev pub byte_of : Kind → ℕ
byte_of k = label_of (label_number k)

-- a kind's row: its label, and ones just where its layout has zero bits
unfoldable pub row_of : Kind → Row
row_of k = record { label = label_number k; kind = k; zeros = mask (word_layout k) }

-- the kind at a place, from 0 to 14; at any other the first
abbrev pub kind_at : ℕ → Kind
kind_at i = get_or kinds i VorAzimuth

abbrev pub rows : List Row
rows = map row_of kinds

-- the kind of the first row that has the label
abbrev pub find_kind : List Row → ℕ → Option Kind
find_kind [] l = None
find_kind (r ∷ rs) l = cond (eqb l r.label) (Some r.kind) (find_kind rs l)

-- only its own label finds a kind
pub only : (ks : List Kind) (l : ℕ) (k : Kind) → find_kind (map row_of ks) l ≡ Some k → label_number k ≡ l
unfolding row_of
only [] l k e = let z : ◌≡◌ {A = ℕ} 0 1 = cc in omega arith
only (j ∷ ks) l k e = by (eqb l (label_number j)) refl e (only ks l k)
  where
    by : (b : Bool) → eqb l (label_number j) ≡ b → cond b (Some j) (find_kind (map row_of ks) l) ≡ Some k
        → (find_kind (map row_of ks) l ≡ Some k → label_number k ≡ l) → label_number k ≡ l
    by true t q rest = let i : j ≡ k = cc in ap label_number (sym i) ∙ sym (eqb-true l (label_number j) t)
    by false t q rest = rest q
