-- Text into a buffer, in the manner of C's `snprintf`: what fits is stored, and all is counted.
-- Assumes nothing.
use Rattle.std.specs.Prelude.{◌≡◌, refl, List, [], ◌∷◌, ◌++◌, ℕ, ◌+◌, ◌≤◌, ◌<◌, min, length, set}
use Rattle.std.proofs.Common.{sym, ap, ◌∙◌, arith, length-append}
use Rattle.std.proofs.lemmas.List.Edits.{sets}
use Rattle.std.proofs.Math.Seq.{length-sets, set_out}
use Rattle.text.specs.Writing.{last, Writes, sets_append, sets_capped}

-- Two texts in a row are one.
pub joined : {a : List ℕ} {i : ℕ} {s b : List ℕ} {j : ℕ} {t c : List ℕ} {k : ℕ} → Writes a i s b j → Writes b j t c k → Writes a i (s ++ t) c k
joined {a} {i} {s} {b} {j} {t} {c} {k} v w = record {
  length_within = v.length_within;
  stored =
      w.stored
      ∙ (λ o. sets (v.stored o) (v.counted o) t)
      ∙ sets_capped (sets a i s) (i + length s) t (omega (arith, length-sets a i s, v.length_within))
      ∙ sym (sets_append a i s t);
  counted = omega (arith, v.counted, w.counted, length-append s t);
}

-- one byte: stored where there is a place for it, and counted
pub byte_stored : {a : List ℕ} {i : ℕ} {x : ℕ} → length a ≤ last → i < length a → Writes a i (x ∷ []) (set a i x) (i + 1)
byte_stored h k = record { length_within = h; stored = refl; counted = omega arith }

pub byte_left : {a : List ℕ} {i : ℕ} {x j : ℕ} → length a ≤ last → length a ≤ i → j ≡ min (i + 1) last → Writes a i (x ∷ []) a j
byte_left {a} {i} {x} h k e = record { length_within = h; stored = sym (set_out a i x k); counted = omega (arith, e) }

-- the buffer keeps its length
pub length-kept : {a : List ℕ} {i : ℕ} {s b : List ℕ} {j : ℕ} → Writes a i s b j → length b ≡ length a
length-kept {a} {i} {s} v = ap length v.stored ∙ length-sets a i s
