-- A record's numbers stand for that record: nothing is lost.
-- Assumes nothing.
use Rattle.std.specs.Prelude.{◌≡◌, refl, Bool, true, ◌&&◌, ℕ, ◌%◌, ◌^◌, ◌<◌, leb, Option, Some}
use Rattle.std.proofs.Common.{ap, ap₂, mod-eq_of_lt, arith, le-leb, leb-true}
use Rattle.bits.specs.Laws.{both_true}
use Rattle.records.specs.Kinds.{kind_of}
use Rattle.records.specs.declared.Body.{Body}
use Rattle.records.specs.declared.Kind.{Kind}
use Rattle.encode.specs.Encode.{values_legal}
use Rattle.flat_records.specs.Numbers.{flat_body}
use Rattle.flat_records.specs.declared.FlatRecord.{FlatRecord}
use Rattle.flat_fields.specs.Fields.{kind_at, listed, is_short, fits, body_from, record_of_kind, record_found, record_from}

-- the numbers of a body are those that its fields' types hold
abbrev pub Bounded : Body → Type 0
Bounded (Body.VorAzimuth status marker count) = Unit
Bounded (Body.VorFrequency status frequency) = Unit
Bounded (Body.IlsCourse status inhibit count) = Unit
Bounded (Body.IlsGlide status inhibit count) = Unit
Bounded (Body.IlsFrequency status category frequency) = Unit
Bounded (Body.MlsFrequency status frequency) = Unit
Bounded (Body.MlsAzimuthDeviation status inhibit clearance count) = Unit
Bounded (Body.MlsGlideDeviation status inhibit clearance count) = Unit
Bounded (Body.SelectedAzimuth status manual degrees) = degrees < 2 ^ 16
Bounded (Body.GreatestGlideAngle status tenths) = tenths < 2 ^ 16
Bounded (Body.SelectedGlideAngle status manual tenths) = tenths < 2 ^ 16
Bounded (Body.Part1 number content) = content < 2 ^ 8
Bounded (Body.Part2 content) = content < 2 ^ 16
Bounded (Body.Part3 content) = content < 2 ^ 16
Bounded (Body.Part4 good content) = content < 2 ^ 16

-- a legal body's are
pub legal_bounded : (b : Body) → values_legal b ≡ true → Bounded b
legal_bounded (Body.VorAzimuth s m c) e = tt
legal_bounded (Body.VorFrequency s f) e = tt
legal_bounded (Body.IlsCourse s i c) e = tt
legal_bounded (Body.IlsGlide s i c) e = tt
legal_bounded (Body.IlsFrequency s k f) e = tt
legal_bounded (Body.MlsFrequency s f) e = tt
legal_bounded (Body.MlsAzimuthDeviation s i l c) e = tt
legal_bounded (Body.MlsGlideDeviation s i l c) e = tt
legal_bounded (Body.SelectedAzimuth s m d) e = omega (arith, leb-true d 359 e)
legal_bounded (Body.GreatestGlideAngle s t) e = omega (arith, leb-true t 255 e)
legal_bounded (Body.SelectedGlideAngle s m t) e = omega (arith, leb-true t 511 e)
legal_bounded (Body.Part1 n c) e = omega (arith, leb-true c 255 (both_true (leb n 255) (leb c 255) e).1)
legal_bounded (Body.Part2 c) e = omega (arith, leb-true c 65535 e)
legal_bounded (Body.Part3 c) e = omega (arith, leb-true c 65535 e)
legal_bounded (Body.Part4 g c) e = omega (arith, leb-true c 65535 e)

pub both : {a b : Bool} → a ≡ true → b ≡ true → (a && b) ≡ true
both p q = ap₂ ◌&&◌ p q

pub short : (n : ℕ) → n < 2 ^ 16 → n % 65536 ≡ n
short n h = mod-eq_of_lt h

pub short_fits : (n : ℕ) → n < 2 ^ 16 → is_short n ≡ true
short_fits n h = le-leb n 65535 (omega arith)

-- what a body's numbers are tested for, and what they mean
pub record Represents (b : Body) (f : FlatRecord) : Type 0 where
  pub codes : listed (kind_of b) f ≡ true
  pub others : fits (kind_of b) f ≡ true
  pub body : body_from (kind_of b) f ≡ b

-- in the numbers of every body stand no refusal, the source, and the place of its kind
pub heads : (s : ℕ) (b : Body) → ((flat_body s b).refusal ≡ 0) × ((flat_body s b).source ≡ s) × (kind_at (flat_body s b).kind ≡ Some (kind_of b))
heads s (Body.VorAzimuth t m c) = (refl, refl, refl)
heads s (Body.VorFrequency t f) = (refl, refl, refl)
heads s (Body.IlsCourse t n c) = (refl, refl, refl)
heads s (Body.IlsGlide t n c) = (refl, refl, refl)
heads s (Body.IlsFrequency t k f) = (refl, refl, refl)
heads s (Body.MlsFrequency t f) = (refl, refl, refl)
heads s (Body.MlsAzimuthDeviation t n l c) = (refl, refl, refl)
heads s (Body.MlsGlideDeviation t n l c) = (refl, refl, refl)
heads s (Body.SelectedAzimuth t m d) = (refl, refl, refl)
heads s (Body.GreatestGlideAngle t d) = (refl, refl, refl)
heads s (Body.SelectedGlideAngle t m d) = (refl, refl, refl)
heads s (Body.Part1 n c) = (refl, refl, refl)
heads s (Body.Part2 c) = (refl, refl, refl)
heads s (Body.Part3 c) = (refl, refl, refl)
heads s (Body.Part4 g c) = (refl, refl, refl)

-- so they are looked at as those of its kind
pub read_as : (s : ℕ) (b : Body) → record_from (flat_body s b) ≡ record_of_kind (kind_of b) (flat_body s b)
read_as s b = ap (λ (l : Option Kind). record_found l (flat_body s b)) (heads s b).2
