-- The tests of a frequency, in tens of kHz. `Raster` says which frequencies they are for, and `RasterLaws` that they are.
-- Assumes nothing.
use Rattle.std.specs.Prelude.{◌≡◌, Bool, true, false, not, cond, ◌&&◌, ℕ, ◌/◌, ◌%◌, ◌≤◌, eqb, leb}
use Rattle.std.proofs.Common.{ap₂, arith, leb-true, le-leb}
use Rattle.bits.specs.Laws.{both_true}
use Rattle.statuses.specs.declared.Status.{Status}
use Rattle.statuses.specs.declared.Status.TheVariants.{Failure, NoData, Test, Ready}
use Rattle.frequencies.specs.Frequencies.{expressible}
use Rattle.frequencies.specs.declared.Band.{Band}
use Rattle.frequencies.specs.declared.Band.TheVariants.{Vor, Ils, Mls}

abbrev pub is_ils : ℕ → Bool
is_ils f = leb 10810 f && (leb f 11195 && (eqb (f % 5) 0 && eqb (f / 10 % 2) 1))

abbrev pub is_vor : ℕ → Bool
is_vor f = leb 10800 f && (leb f 11795 && (eqb (f % 5) 0 && not (is_ils f)))

abbrev pub is_mls : ℕ → Bool
is_mls f = leb 503100 f && (leb f 509070 && eqb (f % 30) 0)

abbrev pub is_channel : Band → ℕ → Bool
is_channel Vor f = is_vor f
is_channel Ils f = is_ils f
is_channel Mls f = is_mls f

-- a frequency is read under ready and test
abbrev pub is_read : Status → Bool
is_read Failure = false
is_read NoData = false
is_read Test = true
is_read Ready = true

-- VOR and ILS frequencies must be channels where they are read, MLS frequencies under every status
abbrev pub must_be_channel : Band → Status → Bool
must_be_channel Vor s = is_read s
must_be_channel Ils s = is_read s
must_be_channel Mls s = true

-- a frequency that need not be a channel is whatever the digits can say
abbrev pub legal_frequency : Band → Status → ℕ → Bool
legal_frequency b s f = cond (must_be_channel b s) (is_channel b f) (expressible b f)

-- ---- what the tests say

-- a test of the ends and of something else
pub ends : (l h f : ℕ) (b : Bool) → (leb l f && (leb f h && b)) ≡ true → (l ≤ f) × (f ≤ h) × (b ≡ true)
ends l h f b e =
    let p = both_true (leb l f) (leb f h && b) e in
    let q = both_true (leb f h) b p.1 in
    (leb-true l f p.0, leb-true f h q.0, q.1)

-- ---- the digits of a word can say every legal frequency

inside : (l h m n f : ℕ) → m ≤ l → h ≤ n → (l ≤ f) × (f ≤ h) → (leb m f && leb f n) ≡ true
inside l h m n f a b r = ap₂ ◌&&◌ (le-leb m f (omega arith)) (le-leb f n (omega arith))

channel_expressible : (b : Band) (f : ℕ) → is_channel b f ≡ true → expressible b f ≡ true
channel_expressible Vor f e = let p = ends _ _ f _ e in inside _ _ 10000 17999 f (omega arith) (omega arith) (p.0, p.1)
channel_expressible Ils f e = let p = ends _ _ f _ e in inside _ _ 10000 17999 f (omega arith) (omega arith) (p.0, p.1)
channel_expressible Mls f e = let p = ends _ _ f _ e in inside _ _ 503000 509999 f (omega arith) (omega arith) (p.0, p.1)

chosen : (c a b : Bool) → (a ≡ true → b ≡ true) → cond c a b ≡ true → b ≡ true
chosen true a b h e = h e
chosen false a b h e = e

pub legal_expressible : (b : Band) (s : Status) (f : ℕ) → legal_frequency b s f ≡ true → expressible b f ≡ true
legal_expressible b s f e = chosen (must_be_channel b s) (is_channel b f) (expressible b f) (channel_expressible b f) e
