-- A signed number by its positive and its negative part, so that orders and distances of signed numbers are those of natural numbers.
use Rattle.std.specs.Prelude.{◌≡◌, refl, ◌⊎◌, Bool, true, false, not, cond, ℕ, zero, suc, ◌+◌, ◌-◌, ◌*◌, ◌≤◌, ◌<◌, min, T, leb, ltb, ℤ, pos, negsuc, neg_ℤ, nat_abs, ◌+ℤ◌, ◌-ℤ◌, ◌*ℤ◌, ◌≤ℤ◌}
use Rattle.std.proofs.Common.{sym, ap, ◌∙◌, inl, inr, zero-mul, arith, leb→le, le→leb, ltb→lt, nltb→le}
use Rattle.std.proofs.Math.Dec.{nleb→lt}
use Rattle.std.proofs.Math.IntN.{sub_ℕ}
use Rattle.std.specs.Int.Signed.{le_z}

-- z where z is above 0, and 0 elsewhere
abbrev pub positive_part : ℤ → ℕ
positive_part (pos n) = n
positive_part (negsuc n) = 0

-- -z where z is below 0, and 0 elsewhere
abbrev pub negative_part : ℤ → ℕ
negative_part (pos n) = 0
negative_part (negsuc n) = suc n

pub le-or-lt : (a b : ℕ) → (a ≤ b) ⊎ (b < a)
le-or-lt a b = go (leb a b) (leb→le a b) (nleb→lt a b)
  where
    go : (t : Bool) → (T t → a ≤ b) → (T (not t) → b < a) → (a ≤ b) ⊎ (b < a)
    go true f g = inl (f tt)
    go false f g = inr (g tt)

-- whether z is below 0
abbrev pub is_negative : ℤ → Bool
is_negative (pos n) = false
is_negative (negsuc n) = true

-- n, or -n where the sign is negative
abbrev pub with_sign : Bool → ℕ → ℤ
with_sign false n = pos n
with_sign true n = neg_ℤ (pos n)

pub with_sign_nat_abs : (z : ℤ) → with_sign (is_negative z) (nat_abs z) ≡ z
with_sign_nat_abs (pos n) = refl
with_sign_nat_abs (negsuc n) = refl

pub nat_abs_with_sign : (negative : Bool) (n : ℕ) → nat_abs (with_sign negative n) ≡ n
nat_abs_with_sign false n = refl
nat_abs_with_sign true zero = refl
nat_abs_with_sign true (suc n) = refl

-- how far two natural numbers lie apart
abbrev pub distance : ℕ → ℕ → ℕ
distance a b = (a - b) + (b - a)

pub nat_abs_parts : (z : ℤ) → nat_abs z ≡ positive_part z + negative_part z
nat_abs_parts (pos n) = omega arith
nat_abs_parts (negsuc n) = omega arith

-- one of the parts is 0
pub one-part : (z : ℤ) → min (positive_part z) (negative_part z) ≡ 0
one-part (pos n) = omega arith
one-part (negsuc n) = omega arith

pub positive_neg : (z : ℤ) → positive_part (neg_ℤ z) ≡ negative_part z
positive_neg (pos zero) = refl
positive_neg (pos (suc n)) = refl
positive_neg (negsuc n) = refl

pub negative_neg : (z : ℤ) → negative_part (neg_ℤ z) ≡ positive_part z
negative_neg (pos zero) = refl
negative_neg (pos (suc n)) = refl
negative_neg (negsuc n) = refl

pub positive_mul : (z : ℤ) (n : ℕ) → positive_part (z *ℤ pos n) ≡ positive_part z * n
positive_mul (pos a) n = refl
positive_mul (negsuc a) n = positive_neg (pos (suc a * n)) ∙ sym (zero-mul n)

pub negative-mul : (z : ℤ) (n : ℕ) → negative_part (z *ℤ pos n) ≡ negative_part z * n
negative-mul (pos a) n = sym (zero-mul n)
negative-mul (negsuc a) n = negative_neg (pos (suc a * n))

positive_cond : (c : Bool) (a b : ℕ) → (T c → a < b) → positive_part (cond c (negsuc (b - suc a)) (pos (a - b))) ≡ a - b
positive_cond true a b f = let h : a < b = f tt in omega arith
positive_cond false a b f = refl

negative_cond : (c : Bool) (a b : ℕ) → (T c → a < b) → (T (not c) → b ≤ a) → negative_part (cond c (negsuc (b - suc a)) (pos (a - b))) ≡ b - a
negative_cond true a b f g = let h : a < b = f tt in omega arith
negative_cond false a b f g = let h : b ≤ a = g tt in omega arith

positive_sub_ℕ : (a b : ℕ) → positive_part (sub_ℕ a b) ≡ a - b
positive_sub_ℕ a b = positive_cond (ltb a b) a b (ltb→lt a b)

negative_sub_ℕ : (a b : ℕ) → negative_part (sub_ℕ a b) ≡ b - a
negative_sub_ℕ a b = negative_cond (ltb a b) a b (ltb→lt a b) (nltb→le a b)

pub positive_add : (x y : ℤ) → positive_part (x +ℤ y) ≡ (positive_part x + positive_part y) - (negative_part x + negative_part y)
positive_add (pos a) (pos b) = omega arith
positive_add (pos a) (negsuc b) = omega (arith, positive_sub_ℕ a (suc b))
positive_add (negsuc a) (pos b) = omega (arith, positive_sub_ℕ b (suc a))
positive_add (negsuc a) (negsuc b) = omega arith

pub negative-add : (x y : ℤ) → negative_part (x +ℤ y) ≡ (negative_part x + negative_part y) - (positive_part x + positive_part y)
negative-add (pos a) (pos b) = omega arith
negative-add (pos a) (negsuc b) = omega (arith, negative_sub_ℕ a (suc b))
negative-add (negsuc a) (pos b) = omega (arith, negative_sub_ℕ b (suc a))
negative-add (negsuc a) (negsuc b) = omega arith

-- the size of a difference, by the parts
pub nat_abs_sub : (x y : ℤ) → nat_abs (x -ℤ y) ≡ distance (positive_part x + negative_part y) (positive_part y + negative_part x)
nat_abs_sub x y =
    omega
    (arith, nat_abs_parts (x -ℤ y), positive_add x (neg_ℤ y), negative-add x (neg_ℤ y), positive_neg y, negative_neg y)

-- two signed numbers are equal by their parts
pub parts-equal : (x y : ℤ) → positive_part x + negative_part y ≡ positive_part y + negative_part x → x ≡ y
parts-equal (pos a) (pos b) h = ap pos (omega arith)
parts-equal (pos a) (negsuc b) h = absurd (omega arith)
parts-equal (negsuc a) (pos b) h = absurd (omega arith)
parts-equal (negsuc a) (negsuc b) h = ap negsuc (omega arith)

-- and ordered by them
pub parts-le : (x y : ℤ) → positive_part x + negative_part y ≤ positive_part y + negative_part x → x ≤ℤ y
parts-le x y h = record { le = test x y h }
  where
    test : (x y : ℤ) → positive_part x + negative_part y ≤ positive_part y + negative_part x → T (le_z x y)
    test (pos a) (pos b) h = le→leb a b (omega arith)
    test (pos a) (negsuc b) h = absurd (omega arith)
    test (negsuc a) (pos b) h = tt
    test (negsuc a) (negsuc b) h = le→leb b a (omega arith)

pub le_parts : (x y : ℤ) → x ≤ℤ y → positive_part x + negative_part y ≤ positive_part y + negative_part x
le_parts (pos a) (pos b) h = omega (arith, leb→le a b h.le)
le_parts (pos a) (negsuc b) h = absurd h.le
le_parts (negsuc a) (pos b) h = omega arith
le_parts (negsuc a) (negsuc b) h = omega (arith, leb→le b a h.le)
