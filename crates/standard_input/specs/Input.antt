-- What is known after standard input was read into a buffer. No contract of the C library says which bytes a read gives, nor when it fails: that the answer counts bytes of the buffer is all that can be promised of a file or a pipe.
-- Of a reader whose bytes are known, as a slice is, it is promised too that the buffer has the bytes that the reader gave.
-- Assumes nothing.
use Rattle.std.specs.Prelude.{List, ◌≡◌, ℕ, ◌+◌, ◌-◌, ◌≤◌, ◌<◌, ◌++◌, length, take, drop, Some, None}
use Rattle.std.proofs.Common.{sym, subst, arith, length-drop, length-take-le, drop_at, take_at}
use Rattle.std.proofs.lemmas.List.{take-append-le}
use Rattle.std.proofs.Math.Seq.{take-add}
use Rattle.std.proofs.KnownBytes.{Consumes-trans}
use Rattle.std.specs.Io.KnownBytes.{Keeps, Consumes, IsAtEnd}
use Rattle.std.specs.declared.option.Option.{Option}
use Rattle.io.specs.Counts.{IsPrefixLen}
use Rattle.standard_input.specs.declared.Chunk.{Chunk}

-- the length counts bytes at the buffer's start
abbrev pub Holds : Option ℕ → List ℕ → Type 0
Holds (Some n) after = IsPrefixLen n after
Holds None after = Unit {0}

-- one read: at least one byte, and at most as many as there is room for
abbrev pub Adds : Chunk → ℕ → Type 0
Adds (Chunk.Bytes n) room = (0 < n) × (n ≤ room)
Adds Chunk.End room = Unit {0}
Adds Chunk.Interrupted room = Unit {0}
Adds Chunk.Failed room = Unit {0}

-- what reading takes of the bytes that a reader has left, where those are known: the bytes that stand in the buffer, and all that there are unless they fill it
abbrev pub Takes : Option ℕ → Option (List ℕ) → Option (List ℕ) → List ℕ → Type 0
Takes (Some n) left rest after = Consumes left rest (take n after) × (n < length after → IsAtEnd rest)
Takes None left rest after = Unit {0}

-- what one read takes of them: the bytes that it adds, and none at the end or where it adds none
abbrev pub TakesOnce : Chunk → Option (List ℕ) → Option (List ℕ) → List ℕ → Type 0
TakesOnce (Chunk.Bytes n) left rest after = Consumes left rest (take n after)
TakesOnce Chunk.End left rest after = Keeps left rest × (0 < length after → IsAtEnd rest)
TakesOnce Chunk.Interrupted left rest after = Keeps left rest
TakesOnce Chunk.Failed left rest after = Keeps left rest

-- a number of bytes that the buffer had counts them, since it keeps its length
pub counts : (n : ℕ) (l first : List ℕ) → n ≤ length first → length l ≡ length first → IsPrefixLen n l
counts n l first h e = let k : n ≤ length l = omega arith in (k, sym (length-take-le n l k))

-- what one read adds, in the buffer of which d bytes were filled
pub added : (r : Chunk) (n d : ℕ) (b first : List ℕ) → d ≤ length first → length b ≡ length first → r ≡ Chunk.Bytes n → Adds r (length (take (length b - d) (drop d b))) → (0 < n) × (d + n ≤ length first)
added r n d b first h e told a =
    let both : Adds (Chunk.Bytes n) (length (take (length b - d) (drop d b))) = subst (λ (x : Chunk). Adds x (length (take (length b - d) (drop d b)))) told a in
    let left : length (drop d b) ≡ length b - d = length-drop d b in
    let room : length (take (length b - d) (drop d b)) ≡ length b - d = length-take-le (length b - d) (drop d b) (omega arith) in
    (both.0, omega (arith, both.1))

-- what the buffer's front and one read behind it took together
pub taken : (a b c : Option (List ℕ)) (d n : ℕ) (front part rest : List ℕ) → length front ≡ d → n ≤ length part → Consumes a b front → Consumes b c (take n part) → Consumes a c (take (d + n) (front ++ (part ++ rest)))
taken a b c d n front part rest long fits before read =
    rw
    (take-add d n (front ++ (part ++ rest)), take_at front (part ++ rest) d long, drop_at front (part ++ rest) d long, take-append-le n part rest fits)
    (Consumes-trans a b c front (take n part) before read)

-- ---- for a program: the length that it was told counts bytes of its buffer

pub counted : (r : Option ℕ) (n : ℕ) (l : List ℕ) → r ≡ Some n → Holds r l → IsPrefixLen n l
counted r n l told h = subst (λ (x : Option ℕ). Holds x l) told h
