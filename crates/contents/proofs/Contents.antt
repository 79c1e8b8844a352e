-- The contents of word and figure fields as document 01 gives them, what is read of any bytes, and that each gives the other back.
-- Assumes nothing.
use Rattle.std.specs.Prelude.{◌≡◌, refl, Bool, true, false, cond, List, [], ◌∷◌, ℕ, suc, ◌*◌, ◌^◌, ◌<◌, eqb, ℤ, length, Ok, Err, Result}
use Rattle.std.proofs.Common.{sym, ap, ap₂, ◌∙◌, subst, arith, eqb-true, lit<}
use Rattle.refusals.specs.declared.Refusal.{Refusal}
use Rattle.bits.specs.Complement.{signed, complement, Holds, complement-lt, complement-signed, signed-complement}
use Rattle.contents.specs.BigEndian.{big_endian, value_of, Bytes, value-lt}
use Rattle.contents.proofs.BigEndian.{value-held, bytes_value}
use Rattle.contents.specs.Contents.{word_bytes, figure_bytes, word_in, figure_in}

pub word_read : (w : ℕ) → w < 2 ^ 32 → word_in (word_bytes w) ≡ Ok w
word_read w h = ap Ok (value-held 4 w h)

pub figure_read : (label : ℕ) (m : ℤ) → Holds 64 m → figure_in (figure_bytes label m) ≡ Ok (label, m)
figure_read label m h =
    ap (λ (d : ℕ). Ok (label, signed 64 d)) (value-held 8 (complement 64 m) (complement-lt 64 m))
    ∙ ap (λ z. Ok (label, z)) (signed-complement 64 m (lit< tt) h)

pub word-only : (bs : List ℕ) (w : ℕ) → Bytes bs → word_in bs ≡ Ok w → bs ≡ word_bytes w
word-only bs w h = by (eqb (length bs) 4) refl
  where
    by : (b : Bool) → eqb (length bs) 4 ≡ b → cond b (Ok (value_of bs)) (Err Refusal.Length) ≡ Ok w → bs ≡ word_bytes w
    by false e r = let z : ◌≡◌ {A = ℕ} 0 1 = cc in absurd (omega arith)
    by true e r =
        let v : value_of bs ≡ w = cc in
        let n : length bs ≡ 4 = eqb-true (length bs) 4 e in
        sym (bytes_value bs h) ∙ ap₂ big_endian n v

pub figure_only : (bs : List ℕ) (label : ℕ) (m : ℤ) → Bytes bs → figure_in bs ≡ Ok (label, m) → bs ≡ figure_bytes label m
figure_only [] label m h r = let z : ◌≡◌ {A = ℕ} 0 1 = cc in absurd (omega arith)
figure_only (b ∷ bs) label m h r = by (eqb (length (b ∷ bs)) 9) refl r
  where
    by : (t : Bool) → eqb (length (b ∷ bs)) 9 ≡ t
        → cond {A = Result (ℕ × ℤ) Refusal} t (Ok (b, signed 64 (value_of bs))) (Err Refusal.Length) ≡ Ok (label, m)
        → b ∷ bs ≡ figure_bytes label m
    by false e r = let z : ◌≡◌ {A = ℕ} 0 1 = cc in absurd (omega arith)
    by true e r =
        let pair : (b, signed 64 (value_of bs)) ≡ (label, m) = cc in
        let first : b ≡ label = ap (λ (p : ℕ × ℤ). p.0) pair in
        let number : signed 64 (value_of bs) ≡ m = ap (λ (p : ℕ × ℤ). p.1) pair in
        let nine : suc (length bs) ≡ 9 = eqb-true (length (b ∷ bs)) 9 e in
        let n : length bs ≡ 8 = omega arith in
        let small : value_of bs < 2 ^ 64 = subst (λ (k : ℕ). value_of bs < 2 ^ (8 * k)) n (value-lt bs h.1) in
        ap₂ ◌∷◌ first
        (sym (bytes_value bs h.1)
        ∙ ap₂ big_endian n (sym (complement-signed 64 (value_of bs) small) ∙ ap (complement 64) number))
