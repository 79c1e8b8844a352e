-- The list of all kinds, and the place of each: what one computed test or equation of the whole list says of each of them.
-- Assumes nothing.
use Rattle.std.specs.Prelude.{◌≡◌, Bool, true, ℕ, ◌-◌, T}
use Rattle.std.proofs.Common.{sym, subst}
use mathlib.Core.List.{List, [], ◌∷◌, map, head-eq_of_cons-eq, tail-eq_of_cons-eq}
use Rattle.records.specs.declared.Kind.{Kind}
use Rattle.records.specs.declared.Kind.TheVariants.{VorAzimuth, VorFrequency, IlsCourse, IlsGlide, IlsFrequency, MlsFrequency, MlsAzimuthDeviation, MlsGlideDeviation, SelectedAzimuth, GreatestGlideAngle, SelectedGlideAngle, Part1, Part2, Part3, Part4}

-- the fifteen kinds in the order of document 01's table
abbrev pub kinds : List Kind
kinds =
    VorAzimuth ∷ VorFrequency ∷ IlsCourse ∷ IlsGlide ∷ IlsFrequency ∷ MlsFrequency ∷ MlsAzimuthDeviation ∷ MlsGlideDeviation ∷ SelectedAzimuth ∷ GreatestGlideAngle ∷ SelectedGlideAngle ∷ Part1 ∷ Part2 ∷ Part3 ∷ Part4 ∷ []

-- it holds of every kind of a list
abbrev Each : (Kind → Type 0) → List Kind → Type 0
Each P [] = Unit {0}
Each P (k ∷ ks) = P k × Each P ks

-- so what holds of the list holds of every kind
each : (P : Kind → Type 0) → Each P kinds → (k : Kind) → P k
each P e VorAzimuth = e.0
each P e VorFrequency = e.1.0
each P e IlsCourse = e.1.1.0
each P e IlsGlide = e.1.1.1.0
each P e IlsFrequency = e.1.1.1.1.0
each P e MlsFrequency = e.1.1.1.1.1.0
each P e MlsAzimuthDeviation = e.1.1.1.1.1.1.0
each P e MlsGlideDeviation = e.1.1.1.1.1.1.1.0
each P e SelectedAzimuth = e.1.1.1.1.1.1.1.1.0
each P e GreatestGlideAngle = e.1.1.1.1.1.1.1.1.1.0
each P e SelectedGlideAngle = e.1.1.1.1.1.1.1.1.1.1.0
each P e Part1 = e.1.1.1.1.1.1.1.1.1.1.1.0
each P e Part2 = e.1.1.1.1.1.1.1.1.1.1.1.1.0
each P e Part3 = e.1.1.1.1.1.1.1.1.1.1.1.1.1.0
each P e Part4 = e.1.1.1.1.1.1.1.1.1.1.1.1.1.1.0

agreed : {A : Type 0} (f g : Kind → A) (ks : List Kind) → map f ks ≡ map g ks → Each (λ k. f k ≡ g k) ks
agreed f g [] e = tt
agreed f g (k ∷ ks) e = (head-eq_of_cons-eq e, agreed f g ks (tail-eq_of_cons-eq e))

-- two functions that agree on the list agree on every kind
pub agree : {A : Type 0} (f g : Kind → A) → map f kinds ≡ map g kinds → (k : Kind) → f k ≡ g k
agree f g e = each (λ k. f k ≡ g k) (agreed f g kinds e)

-- a test that the list passes, every kind passes
pub every : (p : Kind → Bool) → map p kinds ≡ map (λ k. true) kinds → (k : Kind) → T (p k)
every p e k = subst T (sym (agree p (λ k. true) e k)) tt

-- a kind's place in the list, counted from 1
abbrev pub place_of : Kind → ℕ
place_of VorAzimuth = 1
place_of VorFrequency = 2
place_of IlsCourse = 3
place_of IlsGlide = 4
place_of IlsFrequency = 5
place_of MlsFrequency = 6
place_of MlsAzimuthDeviation = 7
place_of MlsGlideDeviation = 8
place_of SelectedAzimuth = 9
place_of GreatestGlideAngle = 10
place_of SelectedGlideAngle = 11
place_of Part1 = 12
place_of Part2 = 13
place_of Part3 = 14
place_of Part4 = 15
