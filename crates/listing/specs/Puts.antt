-- What a call that puts a text into a buffer does, whichever buffer it is given.
-- Assumes nothing.
use Rattle.std.specs.Prelude.{List, ℕ}
use Rattle.std.specs.Fn.{Shared}
use denote.Ref.{MutBor}
use Rattle.text.specs.Writing.{Writes}

-- each call of f stores this text from the buffer's start, as far as it fits, and tells its length
abbrev pub Puts : {F : Type 0} → Shared F (MutBor (List ℕ) × Unit {0}) (ℕ × (MutBor (List ℕ) × Unit {0})) → F → List ℕ → Type 0
Puts g f text = (out left : MutBor (List ℕ)) (n : ℕ) → g.post f (out, tt) (n, (left, tt)) → Writes out.now 0 text left.now n
