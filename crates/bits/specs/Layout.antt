-- A layout of a word: its fields and its zero bits, lowest bit first. The laws of every layout are in `Laws`.
-- Assumes nothing.
use Rattle.std.specs.Prelude.{◌≡◌, Bool, true, ◌&&◌, List, [], ◌∷◌, ℕ, ◌+◌, ◌-◌, ◌*◌, ◌^◌, ◌<◌, eqb}
use Rattle.bits.specs.Fields.{digits}

-- n bits from place o on: they hold a value, or they are zero
pub data Segment : Type 0 where
  part : ℕ → ℕ → Segment
  gap : ℕ → ℕ → Segment

-- bits a to b hold a value
abbrev pub field : ℕ → ℕ → Segment
field a b = part (a - 1) (b + 1 - a)

-- bits a to b are zero
abbrev pub zeros : ℕ → ℕ → Segment
zeros a b = gap (a - 1) (b + 1 - a)

-- each segment starts where the one before it ended, the first at place o
abbrev pub contiguous : ℕ → List Segment → Bool
contiguous o [] = true
contiguous o (part p n ∷ l) = eqb o p && contiguous (p + n) l
contiguous o (gap p n ∷ l) = eqb o p && contiguous (p + n) l

-- how many bits the segments have together
abbrev pub size : List Segment → ℕ
size [] = 0
size (part p n ∷ l) = size l + n
size (gap p n ∷ l) = size l + n

-- the values that the word w holds in the fields
abbrev pub split : List Segment → ℕ → List ℕ
split [] w = []
split (part p n ∷ l) w = digits p n w ∷ split l w
split (gap p n ∷ l) w = split l w

-- the zero bits of w are zero, as a test
abbrev pub clear : List Segment → ℕ → Bool
clear [] w = true
clear (part p n ∷ l) w = clear l w
clear (gap p n ∷ l) w = eqb (digits p n w) 0 && clear l w

-- and as a statement
abbrev pub Clear : List Segment → ℕ → Type 0
Clear [] w = Unit {0}
Clear (part p n ∷ l) w = Clear l w
Clear (gap p n ∷ l) w = (digits p n w ≡ 0) × Clear l w

-- there is one value for each field, and it is narrow enough
abbrev pub Fit : List Segment → List ℕ → Type 0
Fit [] [] = Unit {0}
Fit [] (v ∷ vs) = ⊥
Fit (part p n ∷ l) [] = ⊥
Fit (part p n ∷ l) (v ∷ vs) = (v < 2 ^ n) × Fit l vs
Fit (gap p n ∷ l) vs = Fit l vs

-- the number whose fields hold these values, and whose zero bits are zero
abbrev pub join : List Segment → List ℕ → ℕ
join [] vs = 0
join (part p n ∷ l) [] = 0
join (part p n ∷ l) (v ∷ vs) = join l vs * 2 ^ n + v
join (gap p n ∷ l) vs = join l vs * 2 ^ n + 0

-- the number that has ones just where the zero bits are
abbrev pub mask : List Segment → ℕ
mask [] = 0
mask (part p n ∷ l) = mask l * 2 ^ n + 0
mask (gap p n ∷ l) = mask l * 2 ^ n + (2 ^ n - 1)
