-- Bytes moved to a buffer's start, as far as they are kept.
-- Assumes nothing.
use mathlib.Core.Path.{◌≡◌, sym, ap, ◌∙◌}
use mathlib.Core.List.{List, [], ◌∷◌}
use Prim.Native.Nat.{ℕ, zero, suc, ◌+◌, ◌-◌, ◌≤◌, ◌<◌, min}
use native.Mathlib.Decide.{dec_le}
use native.Mathlib.Omega.{arith}
use lib.ListN.{length, take, drop, length-take, length-drop}
use lib.Seq.{paste, take_all, take-nil, drop-nil, take-take}
use Rattle.std.specs.List.{copy_within}
use Rattle.std.proofs.lemmas.List.Edits.{take-paste}

-- what stands behind a place, up to another
drop-take : (f n : ℕ) (l : List ℕ) → drop f (take n l) ≡ take (n - f) (drop f l)
drop-take zero n l = ap (λ (k : ℕ). take k l) (let k : n ≡ n - 0 = omega arith in k)
drop-take (suc f) zero l = drop-nil (suc f) ∙ ap (λ (k : ℕ). take k (drop (suc f) l)) (let k : 0 ≡ 0 - suc f = omega arith in k)
drop-take (suc f) (suc n) [] = sym (take-nil (suc n - suc f))
drop-take (suc f) (suc n) (c ∷ l) = drop-take f n l ∙ ap (λ (k : ℕ). take k (drop f l)) (let k : n - f ≡ suc n - suc f = omega arith in k)

take_min : (a b : ℕ) (l : List ℕ) → take (min a b) l ≡ take a (take b l)
take_min a b l = go (dec_le a b)
  where
    go : Dec (a ≤ b) → take (min a b) l ≡ take a (take b l)
    go (yes h) = let k : min a b ≡ a = omega arith in ap (λ (n : ℕ). take n l) k ∙ sym (take-take a b l h)
    go (no h) = let k : min a b ≡ b = omega arith in ap (λ (n : ℕ). take n l) k ∙ sym (take_all a (take b l) (omega (arith, length-take b l)))

-- as much of them as is kept stands at the start
pub moved : (b₀ b : List ℕ) (from filled n : ℕ) → from ≤ filled → filled ≤ length b₀ → n ≡ min 202 (filled - from)
    → b ≡ copy_within b₀ from (from + n) 0 → take n b ≡ take 202 (drop from (take filled b₀))
moved b₀ b from filled n h k e m =
    let count : from + n - from ≡ n = omega arith in
    let start : 0 + n ≡ n = omega arith in
    let fits : n ≤ length (drop from b₀) = omega (arith, length-drop from b₀) in
    ap (take n) (m ∙ ap (paste b₀ 0 (drop from b₀)) count)
    ∙ ap (λ (i : ℕ). take i (paste b₀ 0 (drop from b₀) n)) (sym start)
    ∙ take-paste b₀ 0 (drop from b₀) n (omega arith) fits
    ∙ ap (λ (i : ℕ). take i (drop from b₀)) e
    ∙ take_min 202 (filled - from) (drop from b₀)
    ∙ ap (take 202) (sym (drop-take from filled b₀))
