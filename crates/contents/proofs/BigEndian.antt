-- Numbers as bytes, high byte first, for any number of bytes: each direction is the other's inverse.
-- Assumes nothing.
use Rattle.std.specs.Prelude.{◌≡◌, refl, List, [], ◌∷◌, ℕ, zero, suc, ◌+◌, ◌*◌, ◌/◌, ◌%◌, ◌^◌, ◌<◌, length}
use Rattle.std.proofs.Common.{sym, ap, ap₂, ◌∙◌, mod-eq_of_lt, zero-add, arith}
use Rattle.std.proofs.Math.Nat.{mod-one}
use Rattle.std.proofs.lemmas.Nat.{mod-pow-add}
use Rattle.std.proofs.Math.Pow.{mod-mod-pow, field, high, low}
use Rattle.bits.specs.Fields.{digits}
use Rattle.contents.specs.BigEndian.{big_endian, value_of, Bytes, length_bytes, wider, value-lt}

-- the bytes of a number, read again: what of it fits
pub value_bytes : (n v : ℕ) → value_of (big_endian n v) ≡ v % 2 ^ (8 * n)
value_bytes zero v = sym (mod-one v)
value_bytes (suc n) v =
    ap₂ (λ (x y : ℕ). digits (8 * n) 8 v * 2 ^ (8 * x) + y) (length_bytes n v) (value_bytes n v)
    ∙ sym (mod-pow-add v 8 (8 * n))
    ∙ ap (λ (x : ℕ). v % 2 ^ x) (wider n)

-- so a number that n bytes hold is read again
pub value-held : (n v : ℕ) → v < 2 ^ (8 * n) → value_of (big_endian n v) ≡ v
value-held n v h = value_bytes n v ∙ mod-eq_of_lt h

-- digits above the n lowest bytes change none of these
bytes_mod : (n m v : ℕ) → big_endian n (v % 2 ^ (m + 8 * n)) ≡ big_endian n v
bytes_mod zero m v = refl
bytes_mod (suc n) m v =
    let e : m + 8 * suc n ≡ m + 8 + 8 * n = omega arith in
    ap (λ (x : ℕ). big_endian (suc n) (v % 2 ^ x)) e
    ∙ ap₂ ◌∷◌ (ap (λ (x : ℕ). x % 2 ^ 8) (field v (m + 8) (8 * n)) ∙ mod-mod-pow (v / 2 ^ (8 * n)) m 8) (bytes_mod n (m + 8) v)

-- the bytes that make a number are its bytes
pub bytes_value : (bs : List ℕ) → Bytes bs → big_endian (length bs) (value_of bs) ≡ bs
bytes_value [] h = refl
bytes_value (b ∷ bs) h =
    let n : ℕ = length bs in
    let l : value_of bs < 2 ^ (8 * n) = value-lt bs h.1 in
    ap₂ ◌∷◌
    (ap (λ (x : ℕ). x % 2 ^ 8) (high b (8 * n) l) ∙ mod-eq_of_lt h.0)
    (sym (bytes_mod n 0 (b * 2 ^ (8 * n) + value_of bs))
    ∙ ap (λ (x : ℕ). big_endian n ((b * 2 ^ (8 * n) + value_of bs) % 2 ^ x)) (zero-add (8 * n))
    ∙ ap (big_endian n) (low b (8 * n) l)
    ∙ bytes_value bs h.1)
