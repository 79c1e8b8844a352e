-- A list of known length is its elements, written out; and 8 bytes are two times 4.
-- Assumes nothing.
use mathlib.Core.Path.{◌≡◌, ap, ◌∙◌}
use mathlib.Core.List.{List, [], ◌∷◌}
use Prim.Native.Nat.{ℕ, zero, suc, ◌+◌, ◌*◌}
use native.Mathlib.Omega.{arith}
use lib.ListN.{length, get_or, drop, drop_of_length-le}
use lib.Seq.{drop-cons}
use Rattle.contents.specs.BigEndian.{value_of}

-- n elements from an index on
abbrev pub elements : ℕ → ℕ → List ℕ → List ℕ
elements zero at l = []
elements (suc n) at l = get_or l at 0 ∷ elements n (suc at) l

pub written_out : (n at : ℕ) (l : List ℕ) → length l ≡ at + n → drop at l ≡ elements n at l
written_out zero at l e = drop_of_length-le l {i = at} (omega arith)
written_out (suc n) at l e =
    drop-cons l at 0 (omega arith) ∙ ap (λ (r : List ℕ). get_or l at 0 ∷ r) (written_out n (suc at) l (omega arith))

pub halves : (a b c d e f g h : ℕ)
    → value_of (a ∷ b ∷ c ∷ d ∷ []) * 0x100000000 + value_of (e ∷ f ∷ g ∷ h ∷ []) ≡ value_of (a ∷ b ∷ c ∷ d ∷ e ∷ f ∷ g ∷ h ∷ [])
halves a b c d e f g h = omega arith
