-- Text into a buffer, in the manner of C's `snprintf`: what fits is stored, and all is counted.
-- Assumes nothing.
use Rattle.std.specs.Prelude.{◌≡◌, refl, List, [], ◌∷◌, ◌++◌, ℕ, suc, ◌+◌, ◌-◌, ◌^◌, ◌≤◌, min, length, take, drop, set}
use Rattle.std.proofs.Common.{sym, ap, ap₂, subst, ◌∙◌, arith, length-append}
use Rattle.std.proofs.Math.Decide.{dec_le}
use Rattle.std.proofs.lemmas.List.Edits.{sets, sets-eq}
use Rattle.std.proofs.Math.Seq.{set_out, take-append_seam}

-- the largest number of 64 bits, at which counting stops: no buffer reaches it
abbrev pub last : ℕ
last = 2 ^ 64 - 1

-- `after` is `before` with the text stored from `at`, as far as it fits, and `next` is the place behind the text
pub record Writes (before : List ℕ) (at : ℕ) (text after : List ℕ) (next : ℕ) : Type 0 where
  -- as of every slice
  pub length_within : length before ≤ last
  pub stored : after ≡ sets before at text
  pub counted : next ≡ min (at + length text) last

-- nothing is stored behind the end
sets_out : (l : List ℕ) (i : ℕ) (t : List ℕ) → length l ≤ i → sets l i t ≡ l
sets_out l i [] h = refl
sets_out l i (a ∷ t) h = ap (λ (x : List ℕ). sets x (suc i) t) (set_out l i a h) ∙ sets_out l (suc i) t (omega arith)

pub sets_append : (l : List ℕ) (i : ℕ) (s t : List ℕ) → sets l i (s ++ t) ≡ sets (sets l i s) (i + length s) t
sets_append l i [] t = ap (λ (k : ℕ). sets l k t) (omega arith)
sets_append l i (a ∷ s) t = sets_append (set l i a) (suc i) s t ∙ ap (λ (k : ℕ). sets (sets (set l i a) (suc i) s) k t) (omega arith)

-- a place past the largest number is past the end all the same
pub sets_capped : (l : List ℕ) (i : ℕ) (t : List ℕ) → length l ≤ last → sets l (min i last) t ≡ sets l i t
sets_capped l i t h = go (dec_le i last)
  where
    go : Dec (i ≤ last) → sets l (min i last) t ≡ sets l i t
    go (yes k) = ap (λ (n : ℕ). sets l n t) (omega arith)
    go (no k) = sets_out l (min i last) t (omega arith) ∙ sym (sets_out l i t (omega arith))

-- a text by another name
pub named : {a : List ℕ} {i : ℕ} {s t b : List ℕ} {j : ℕ} → Writes a i s b j → s ≡ t → Writes a i t b j
named {a} {i} {s} {t} {b} {j} v e = subst (λ (x : List ℕ). Writes a i x b j) e v

-- an empty text changes nothing
pub empty : {a : List ℕ} {i : ℕ} → length a ≤ last → i ≤ last → Writes a i [] a i
empty h k = record { length_within = h; stored = refl; counted = omega arith }

-- where the text ends below the largest number, the next place is exact
pub exact : {a : List ℕ} {i : ℕ} {s b : List ℕ} {j : ℕ} → Writes a i s b j → i + length s ≤ last → j ≡ i + length s
exact v h = omega (arith, v.counted)

-- a text that the buffer has room for stands whole at its start, and the next place counts its bytes
pub whole : {a s b : List ℕ} {n : ℕ} → Writes a 0 s b n → length s ≤ length a → ((n ≤ length b) × (n ≡ length (take n b))) × (take n b ≡ s)
whole {a} {s} {b} {n} w fits =
    let size : n ≡ length s = omega (arith, w.counted, w.length_within) in
    let all : b ≡ s ++ drop (0 + length s) a = w.stored ∙ sets-eq s a 0 (omega arith) in
    let first : take n b ≡ s = ap₂ (λ (k : ℕ) (l : List ℕ). take k l) size all ∙ take-append_seam s (drop (0 + length s) a) in
    let within : length b ≡ length s + length (drop (0 + length s) a) = ap length all ∙ length-append s (drop (0 + length s) a) in
    ((omega (arith, size, within), size ∙ ap length (sym first)), first)
