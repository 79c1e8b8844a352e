-- A number digit by digit: what is read so far, with the digits that are left behind it, is the whole.
-- Assumes nothing.
use Rattle.std.specs.Prelude.{Some, None}
use mathlib.Core.Path.{◌≡◌, refl, sym, ap, ap₂, ◌∙◌}
use mathlib.Core.Bool.{Bool, true, false, ◌&&◌, and-false}
use mathlib.Core.List.{List, [], ◌∷◌}
use Prim.Native.Nat.{ℕ, suc, ◌+◌, ◌-◌, ◌*◌, ◌/◌, ◌≤◌, ◌<◌}
use native.Mathlib.Nat.{le_trans, le-mul_of_pos_right, le-div_iff_mul-le}
use native.Mathlib.Numerals.{add-one}
use native.Mathlib.Omega.{arith}
use borrow.Author.Tests.{ltb-true, leb-true, leb-false, lt-ltb, le-ltb, le-leb, lt-leb}
use lib.Dec.{ltb, leb}
use lib.ListN.{length, drop, get_or, drop_of_length-le}
use lib.Seq.{drop-cons}
use Rattle.typed_texts.specs.Numbers.{digit_of, value_from, value_of, are_digits, goes_behind, numeral, numeral_of}

-- ---- one digit

module _ (n d b m : ℕ) where
  pub no_digit : b ≤ d → false ≡ goes_behind b m n d
  no_digit h = rw (le-ltb d b h)

  pub digit_too_great : d < b → m < d → false ≡ goes_behind b m n d
  digit_too_great h k = rw (lt-ltb d b h) (sym (lt-leb (n * b + d) m (omega arith)))

  pub room : d < b → d ≤ m → leb n ((m - d) / b) ≡ goes_behind b m n d
  room h k = rw (lt-ltb d b h) (go (leb n ((m - d) / b)) refl (leb (n * b + d) m) refl)
    where
      go : (x : Bool) → leb n ((m - d) / b) ≡ x → (y : Bool) → leb (n * b + d) m ≡ y → x ≡ y
      go true e true f = refl
      go false e false f = refl
      go true e false f =
          let less = leb-false (n * b + d) m f in
          let fits = (le-div_iff_mul-le {k = b} {x = n} {y = m - d} (omega arith)).0 (leb-true n ((m - d) / b) e) in
          absurd (omega arith)
      go false e true f =
          let less = leb-false n ((m - d) / b) e in
          let sum = leb-true (n * b + d) m f in
          let fits = (le-div_iff_mul-le {k = b} {x = n} {y = m - d} (omega arith)).1 (omega arith) in
          absurd (omega arith)

-- ---- the digits of a text, of which i are read and are the number n

pub record Reads (b m : ℕ) (t : List ℕ) (n i : ℕ) : Type 0 where
  pub within : i ≤ length t
  pub digits : are_digits b t ≡ are_digits b (drop i t)
  pub value : value_of b t ≡ value_from b n (drop i t)
  pub small : n ≤ m

pub nothing_read : (b m : ℕ) (t : List ℕ) → Reads b m t 0 0
nothing_read b m t = record { within = omega arith; digits = refl; value = refl; small = omega arith }

-- more digits never make a number smaller
grows : (b n : ℕ) (t : List ℕ) → 0 < b → n ≤ value_from b n t
grows b n [] h = omega arith
grows b n (c ∷ t) h = le_trans (omega (arith, le-mul_of_pos_right n h)) (grows b (n * b + digit_of c) t h)

both : (x y : Bool) → (x && y) ≡ true → (x ≡ true) × (y ≡ true)
both true true h = (refl, refl)
both true false h = (refl, h)
both false y h = (h, let z : ◌≡◌ {A = ℕ} 0 1 = cc in absurd (omega arith))

module _ (b m : ℕ) (t : List ℕ) (n i d : ℕ) (reads : Reads b m t n i) (h : i < length t) (e : d ≡ digit_of (get_or t i 0)) where
  -- the digit at hand, and what is left behind it
  here : drop i t ≡ get_or t i 0 ∷ drop (suc i) t
  here = drop-cons t i 0 h

  digits_here : are_digits b t ≡ (ltb d b && are_digits b (drop (suc i) t))
  digits_here = reads.digits ∙ ap (are_digits b) here ∙ ap (λ (x : ℕ). ltb x b && are_digits b (drop (suc i) t)) (sym e)

  value_here : value_of b t ≡ value_from b (n * b + d) (drop (suc i) t)
  value_here = reads.value ∙ ap (value_from b n) here ∙ ap (λ (x : ℕ). value_from b (n * b + x) (drop (suc i) t)) (sym e)

  pub sum_small : goes_behind b m n d ≡ true → n * b + d ≤ m
  sum_small g = leb-true (n * b + d) m (both (ltb d b) (leb (n * b + d) m) g).1

  pub digit_read : goes_behind b m n d ≡ true → Reads b m t (n * b + d) (i + 1)
  digit_read g =
      let next = add-one i in
      record {
        within = omega arith;
        digits = digits_here ∙ ap₂ (λ (x : Bool) (k : ℕ). x && are_digits b (drop k t)) (both (ltb d b) (leb (n * b + d) m) g).0 (sym (add-one i));
        value = value_here ∙ ap (λ (k : ℕ). value_from b (n * b + d) (drop k t)) (sym (add-one i));
        small = sum_small g;
      }

  not_read : goes_behind b m n d ≡ false → (are_digits b t && leb (value_of b t) m) ≡ false
  not_read g = go (ltb d b) refl g
    where
      go : (x : Bool) → ltb d b ≡ x → (x && leb (n * b + d) m) ≡ false → (are_digits b t && leb (value_of b t) m) ≡ false
      go false f g = ap (λ (y : Bool). y && leb (value_of b t) m) (digits_here ∙ ap (λ (y : Bool). y && are_digits b (drop (suc i) t)) f)
      go true f g =
          let less = ltb-true d b f in
          let great = leb-false (n * b + d) m g in
          let most = grows b (n * b + d) (drop (suc i) t) (omega arith) in
          let whole = value_here in
          ap (λ (y : Bool). are_digits b t && y) (lt-leb (value_of b t) m (omega arith)) ∙ and-false (are_digits b t)

-- a digit that does not go behind the others leaves no number
pub refused : (b m : ℕ) (t : List ℕ) (n i d : ℕ) → Reads b m t n i → i < length t → d ≡ digit_of (get_or t i 0) → goes_behind b m n d ≡ false
    → None ≡ numeral_of b m t
refused b m [] n i d reads h e g = absurd (omega arith)
refused b m (c ∷ t) n i d reads h e g =
    ap (λ (x : Bool). numeral x (value_of b (c ∷ t))) (sym (not_read b m (c ∷ t) n i d reads h e g))

-- nothing is no number
pub no_digits : (b m : ℕ) (t : List ℕ) → length t ≡ 0 → None ≡ numeral_of b m t
no_digits b m [] e = refl
no_digits b m (c ∷ t) e = absurd (omega arith)

-- all digits are read
pub all_read : (b m : ℕ) (t : List ℕ) (n i : ℕ) → 0 < length t → Reads b m t n i → length t ≤ i → Some n ≡ numeral_of b m t
all_read b m [] n i some reads h = absurd (omega arith)
all_read b m (c ∷ t) n i some reads h =
    let none = drop_of_length-le (c ∷ t) h in
    let value : value_of b (c ∷ t) ≡ n = reads.value ∙ ap (value_from b n) none in
    let digits : are_digits b (c ∷ t) ≡ true = reads.digits ∙ ap (are_digits b) none in
    let all : (are_digits b (c ∷ t) && leb (value_of b (c ∷ t)) m) ≡ true = ap₂ (λ (x : Bool) (y : ℕ). x && leb y m) digits value ∙ le-leb n m reads.small in
    sym (ap₂ numeral all value)
