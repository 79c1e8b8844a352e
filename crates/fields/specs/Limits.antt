-- What holds of every sheet: which refusals there are and where, and where its fields stand.
-- Assumes nothing.
use Rattle.std.specs.Prelude.{◌≡◌, refl, List, [], ◌∷◌, ◌++◌, ℕ, ◌+◌, ◌-◌, ◌≤◌, ◌<◌, length, Err}
use Rattle.std.proofs.Common.{arith}
use Rattle.refusals.specs.declared.Refusal.{Refusal}
use Rattle.refusals.specs.Numbers.{number_of}
use Rattle.fields.specs.Run.{Field, Scan, Fields, Refused, ◌and_then◌, scan, sheet_of}
use Rattle.fields.specs.Laws.{StartView, refused}

-- ---- what is stated

-- a field that stands in a run of n bytes at depth d, whose first byte has the offset p: inside it, and no deeper than 4
pub record Placed (d p n : ℕ) (f : Field) : Type 0 where
  pub first : p ≤ f.place
  pub last : f.place + 3 + length f.content ≤ p + n
  pub deep : (d ≤ f.depth) × (f.depth ≤ 4)

-- a refusal of a field: number 9, 10, 11 or 12, at a byte of the run
pub record FieldRefusal (p n : ℕ) (f : Refusal) (q : ℕ) : Type 0 where
  pub number : (9 ≤ number_of f) × (number_of f ≤ 12)
  pub offset : (p ≤ q) × (q < p + n)

-- each field of a list
infixr 20 ◌also◌
pub data Every (P : Field → Type 0) : List Field → Type 0 where
  nothing : Every P []
  ◌also◌ : {f : Field} {fs : List Field} → P f → Every P fs → Every P (f ∷ fs)

-- every field stands in the run, or the refusal does
abbrev pub Bounded : (depth place n : ℕ) → Scan → Type 0
Bounded d p n (Fields fs) = Every (Placed d p n) fs
Bounded d p n (Refused f q) = FieldRefusal p n f q

-- ---- one run after another, and a run in another

every_append : {P : Field → Type 0} {fs gs : List Field} → Every P fs → Every P gs → Every P (fs ++ gs)
every_append nothing h = h
every_append (p also g) h = p also every_append g h

every_map : {P Q : Field → Type 0} {fs : List Field} → ((f : Field) → P f → Q f) → Every P fs → Every Q fs
every_map m nothing = nothing
every_map m (◌also◌ {f} p g) = m f p also every_map m g

pub bounded_then : (d p n : ℕ) (s t : Scan) → Bounded d p n s → Bounded d p n t → Bounded d p n (s and_then t)
bounded_then d p n (Fields fs) (Fields gs) hs ht = every_append hs ht
bounded_then d p n (Fields fs) (Refused f q) hs ht = ht
bounded_then d p n (Refused f q) t hs ht = hs

pub bounded_in : (d p n d' p' n' : ℕ) (s : Scan) → d ≤ d' → p ≤ p' → p' + n' ≤ p + n → Bounded d' p' n' s → Bounded d p n s
bounded_in d p n d' p' n' (Fields fs) hd hp hn h =
    every_map {P = Placed d' p' n'} (λ f b. record { first = omega (arith, b.first); last = omega (arith, b.last); deep = (omega (arith, b.deep.0), b.deep.1) }) h
bounded_in d p n d' p' n' (Refused f q) hd hp hn h = record { number = h.number; offset = (omega (arith, h.offset.0), omega (arith, h.offset.1)) }

-- ---- a step

-- a refusal at a run's start
pub refused_start : (d : ℕ) (bs : List ℕ) (f : Refusal) → StartView d bs (Err f) → (9 ≤ number_of f) × (number_of f ≤ 12) × (0 < length bs)
refused_start d bs f (refused g xs number some) = (number.0, number.1, some)

-- ---- every sheet

-- The empty sheet is legal and has no field.
pub empty_sheet : sheet_of [] ≡ Fields []
unfolding scan
empty_sheet = refl

-- ---- depths, by example

-- three groups in each other around the header of a field
abbrev pub nested : (tag low : ℕ) → List ℕ
nested tag low = 0x20 ∷ 0 ∷ 9 ∷ 0x20 ∷ 0 ∷ 6 ∷ 0x20 ∷ 0 ∷ 3 ∷ tag ∷ 0 ∷ low ∷ []
