-- The digits of a number mean that number, and there is no other way to read them: what makes the definitions of `Digits` believable.
-- Assumes nothing.
use Rattle.std.specs.Prelude.{◌≡◌, refl, Bool, true, false, cond, List, [], ◌∷◌, ◌++◌, ◌↔◌, ℕ, zero, suc, ◌+◌, ◌-◌, ◌*◌, ◌/◌, ◌%◌, ◌^◌, ◌≤◌, ◌<◌, eqb, ltb, ℤ, pos, negsuc, nat_abs, length}
use Rattle.std.proofs.Common.{sym, ap, ◌∙◌, append-nil, append_assoc, mod-lt, mod-eq_of_lt, div-one, zero-mul, pow-suc, mul_assoc, add-mul, div-add-mod', arith, lt-ltb, le-ltb, ltb-true, ltb-false, ne_eqb, length-append}
use Rattle.std.proofs.Math.Nat.{mod-one, pow-zero, one-le-pow, pow-succ', div-div-eq-div-mul}
use Rattle.std.proofs.Math.Arith.{mod-mul}
use Rattle.numerals.specs.Digits.{digit, padded, octal3, decimal_within, decimal, pointed, fixed, signed_fixed}

-- ---- the digits of a number, one at a time

bound_enough : (f g n : ℕ) → n ≤ f → n ≤ g → decimal_within f n ≡ decimal_within g n
bound_enough zero zero n a b = refl
bound_enough zero (suc g) n a b = rw (lt-ltb n 10 (omega arith))
bound_enough (suc f) zero n a b = rw (lt-ltb n 10 (omega arith))
bound_enough (suc f) (suc g) n a b =
    ap (λ (t : List ℕ). cond (ltb n 10) (digit 10 n ∷ []) (t ++ (digit 10 n ∷ []))) (bound_enough f g (n / 10) (omega arith) (omega arith))

-- a number below 10 is one digit
pub decimal_digit : (n : ℕ) → n < 10 → decimal n ≡ digit 10 n ∷ []
unfolding decimal
decimal_digit n h = bound_enough n (suc n) n (omega arith) (omega arith) ∙ rw (lt-ltb n 10 h)

-- any other is a number with one digit behind it
pub decimal_step : (n : ℕ) → 10 ≤ n → decimal n ≡ decimal (n / 10) ++ (digit 10 n ∷ [])
unfolding decimal
decimal_step n h =
    bound_enough n (suc n) n (omega arith) (omega arith)
    ∙ rw (le-ltb n 10 h)
    (ap (λ (t : List ℕ). t ++ (digit 10 n ∷ [])) (bound_enough n (n / 10) (n / 10) (omega arith) (omega arith)))

-- the same by two and by three digits
pub decimal_two : (n : ℕ) → 10 ≤ n → n < 100 → decimal n ≡ (digit 10 (n / 10) ∷ []) ++ (digit 10 n ∷ [])
decimal_two n h k = decimal_step n h ∙ ap (λ (t : List ℕ). t ++ (digit 10 n ∷ [])) (decimal_digit (n / 10) (omega arith))

pub decimal_three : (n : ℕ) → 100 ≤ n → n < 1000 → decimal n ≡ padded 10 3 n
decimal_three n h k =
    decimal_step n (omega arith) ∙ ap (λ (t : List ℕ). t ++ (digit 10 n ∷ [])) (decimal_two (n / 10) (omega arith) (omega arith))

three_behind : (t : List ℕ) (n : ℕ) → t ++ (digit 10 (n / 10 / 10) ∷ []) ++ (digit 10 (n / 10) ∷ []) ++ (digit 10 n ∷ []) ≡ t ++ padded 10 3 n
three_behind t n =
    append_assoc (t ++ (digit 10 (n / 10 / 10) ∷ [])) (digit 10 (n / 10) ∷ []) (digit 10 n ∷ [])
    ∙ append_assoc t (digit 10 (n / 10 / 10) ∷ []) (digit 10 (n / 10) ∷ digit 10 n ∷ [])

thousandth : (n : ℕ) → n / 10 / 10 / 10 ≡ n / 1000
thousandth n = omega arith

pub decimal_thousands : (n : ℕ) → 1000 ≤ n → decimal n ≡ decimal (n / 1000) ++ padded 10 3 n
decimal_thousands n h =
    decimal_step n (omega arith)
    ∙ ap (λ (t : List ℕ). t ++ (digit 10 n ∷ [])) (decimal_step (n / 10) (omega arith))
    ∙ ap (λ (t : List ℕ). t ++ (digit 10 (n / 10) ∷ []) ++ (digit 10 n ∷ [])) (decimal_step (n / 10 / 10) (omega arith))
    ∙ three_behind (decimal (n / 10 / 10 / 10)) n
    ∙ ap (λ (m : ℕ). decimal m ++ padded 10 3 n) (thousandth n)

-- the point behind a whole number, and a digit more behind the point
pub pointed-none : (n : ℕ) → pointed 0 n ≡ decimal n ++ (46 ∷ [])
pointed-none n = append-nil (decimal (n / 10 ^ 0) ++ (46 ∷ [])) ∙ ap (λ (x : ℕ). decimal x ++ (46 ∷ [])) (div-one n)

pointed-step : (places n : ℕ) → pointed (suc places) n ≡ pointed places (n / 10) ++ (digit 10 n ∷ [])
pointed-step places n =
    ap (λ (x : ℕ). decimal x ++ (46 ∷ []) ++ padded 10 (suc places) n)
    (ap (λ (x : ℕ). n / x) (pow-succ' 10 places) ∙ sym (div-div-eq-div-mul n 10 (10 ^ places)))
    ∙ sym (append_assoc (decimal (n / 10 / 10 ^ places) ++ (46 ∷ [])) (padded 10 places (n / 10)) (digit 10 n ∷ []))

pub pointed_more : (places n : ℕ) → (places ≡ 0 → ⊥) → pointed places n ≡ pointed (places - 1) (n / 10) ++ (digit 10 n ∷ [])
pointed_more zero n h = absurd (h refl)
pointed_more (suc places) n h = pointed-step places n ∙ ap (λ (p : ℕ). pointed p (n / 10) ++ (digit 10 n ∷ [])) (omega arith)

pub pointed_thousands : (places n : ℕ) → 3 ≤ places → pointed places n ≡ pointed (places - 3) (n / 1000) ++ padded 10 3 n
pointed_thousands places n h =
    ap (λ (p : ℕ). pointed p n) e
    ∙ pointed-step (suc (suc (places - 3))) n
    ∙ ap (λ (t : List ℕ). t ++ (digit 10 n ∷ [])) (pointed-step (suc (places - 3)) (n / 10))
    ∙ ap (λ (t : List ℕ). t ++ (digit 10 (n / 10) ∷ []) ++ (digit 10 n ∷ [])) (pointed-step (places - 3) (n / 10 / 10))
    ∙ three_behind (pointed (places - 3) (n / 10 / 10 / 10)) n
    ∙ ap (λ (m : ℕ). pointed (places - 3) m ++ padded 10 3 n) (thousandth n)
  where
    e : places ≡ suc (suc (suc (places - 3)))
    e = omega arith

-- where there are places, there is a point
pub fixed-pointed : (places n : ℕ) → (places ≡ 0 → ⊥) → pointed places n ≡ fixed places n
fixed-pointed zero n h = absurd (h refl)
fixed-pointed (suc places) n h = refl

-- What holds of every digit below 10, and of a number's digits with one behind them, holds of every number's.
module _ (P : ℕ → List ℕ → Type 0) (one : (n : ℕ) → n < 10 → P n (digit 10 n ∷ []))
    (more : (n : ℕ) (t : List ℕ) → 10 ≤ n → P (n / 10) t → P n (t ++ (digit 10 n ∷ []))) where
  within : (bound n : ℕ) → n ≤ bound → P n (decimal_within bound n)
  within zero n h = one n (omega arith)
  within (suc bound) n h = go (ltb n 10) refl (decimal_within bound (n / 10)) (within bound (n / 10) (omega arith))
    where
      go : (b : Bool) → ltb n 10 ≡ b → (t : List ℕ) → P (n / 10) t → P n (cond b (digit 10 n ∷ []) (t ++ (digit 10 n ∷ [])))
      go true e t k = one n (ltb-true n 10 e)
      go false e t k = more n t (ltb-false n 10 e) k

  pub by_digits : (n : ℕ) → P n (decimal n)
  unfolding decimal
  by_digits n = within n n (omega arith)

-- ---- every element is a digit

abbrev pub Digits : ℕ → List ℕ → Type 0
Digits base [] = Unit {0}
Digits base (d ∷ t) = ((48 ≤ d) × (d < 48 + base)) × Digits base t

digits_last : (base : ℕ) (t : List ℕ) (d : ℕ) → Digits base t → (48 ≤ d) × (d < 48 + base) → Digits base (t ++ (d ∷ []))
digits_last base [] d h k = (k, tt)
digits_last base (e ∷ t) d h k = (h.0, digits_last base t d h.1 k)

digit-right : (base n : ℕ) → 0 < base → (48 ≤ digit base n) × (digit base n < 48 + base)
digit-right base n h = (omega arith, omega (arith, mod-lt n h))

pub decimal-digits : (n : ℕ) → Digits 10 (decimal n)
decimal-digits = by_digits (λ n t. Digits 10 t) (λ n h. (omega arith, tt)) (λ n t h k. digits_last 10 t (digit 10 n) k (omega arith))

pub padded-digits : (base places n : ℕ) → 0 < base → Digits base (padded base places n)
padded-digits base zero n h = tt
padded-digits base (suc places) n h = digits_last base (padded base places (n / base)) (digit base n) (padded-digits base places (n / base) h) (digit-right base n h)

-- ---- their value is the number

-- the value of a text of digits behind a number that was read
abbrev pub value_from : ℕ → ℕ → List ℕ → ℕ
value_from base v [] = v
value_from base v (d ∷ t) = value_from base (v * base + (d - 48)) t

abbrev pub value : ℕ → List ℕ → ℕ
value base t = value_from base 0 t

pub value-append : (base v : ℕ) (s t : List ℕ) → value_from base v (s ++ t) ≡ value_from base (value_from base v s) t
value-append base v [] t = refl
value-append base v (d ∷ s) t = value-append base (v * base + (d - 48)) s t

pub decimal-value : (n : ℕ) → value 10 (decimal n) ≡ n
decimal-value =
    by_digits (λ n t. value 10 t ≡ n) (λ n h. omega arith)
    (λ n t h e. value-append 10 0 t (digit 10 n ∷ []) ∙ omega (arith, e))

-- the places show the number's remainder, behind what stands before them
padded-after : (base places v n : ℕ) → 0 < base → value_from base v (padded base places n) ≡ v * base ^ places + n % base ^ places
padded-after base zero v n h = rw (pow-zero base) (omega (arith, mod-one n))
padded-after base (suc places) v n h =
    value-append base v (padded base places (n / base)) (digit base n ∷ [])
    ∙ ap (λ (x : ℕ). x * base + (48 + n % base - 48)) (padded-after base places v (n / base) h)
    ∙ behind (base ^ places) (n / base % base ^ places) (n % base)
    ∙ ap (λ (x : ℕ). v * (base ^ places * base) + x) (sym (mod-mul n (one-le-pow places base h) h))
    ∙ ap (λ (x : ℕ). v * x + n % x) (sym (pow-suc base places))
  where
    behind : (p m r : ℕ) → (v * p + m) * base + (48 + r - 48) ≡ v * (p * base) + (m * base + r)
    behind p m r = omega (arith, add-mul (v * p) m base, mul_assoc v p base)

pub padded-value : (base places n : ℕ) → 0 < base → value base (padded base places n) ≡ n % base ^ places
padded-value base places n h = padded-after base places 0 n h ∙ ap (λ (x : ℕ). x + n % base ^ places) (zero-mul (base ^ places)) ∙ omega arith

-- a label's three octal digits mean the label
pub octal3-value : (n : ℕ) → n < 512 → value 8 (octal3 n) ≡ n
octal3-value n h = padded-value 8 3 n (omega arith) ∙ mod-eq_of_lt h

pub padded-length : (base places n : ℕ) → length (padded base places n) ≡ places
padded-length base zero n = refl
padded-length base (suc places) n = length-append (padded base places (n / base)) (digit base n ∷ []) ∙ omega (arith, padded-length base places (n / base))

-- ---- no leading zero

abbrev pub first : List ℕ → ℕ
first [] = 0
first (d ∷ t) = d

first-append : (s t : List ℕ) → 48 < first s → 48 < first (s ++ t)
first-append [] t h = absurd (omega arith)
first-append (d ∷ s) t h = h

-- zero is one zero, and any other number starts with another digit
pub decimal-zero : decimal 0 ≡ 48 ∷ []
unfolding decimal
decimal-zero = refl

pub decimal-leading : (n : ℕ) → 0 < n → 48 < first (decimal n)
decimal-leading =
    by_digits (λ n t. 0 < n → 48 < first t) (λ n h p. omega arith)
    (λ n t h k p. first-append t (digit 10 n ∷ []) (k (omega arith)))

-- ---- the point

-- what stands behind the point
abbrev pub after_point : List ℕ → List ℕ
after_point [] = []
after_point (d ∷ t) = cond (eqb d 46) t (after_point t)

-- the text without its points
abbrev pub without_point : List ℕ → List ℕ
without_point [] = []
without_point (d ∷ t) = cond (eqb d 46) (without_point t) (d ∷ without_point t)

after-digits : (s t : List ℕ) → Digits 10 s → after_point (s ++ (46 ∷ []) ++ t) ≡ t
after-digits [] t h = refl
after-digits (d ∷ s) t h = rw (ne_eqb d 46 (λ e. omega (arith, h.0.0))) (after-digits s t h.1)

without_digits : (s t : List ℕ) → Digits 10 s → without_point (s ++ t) ≡ s ++ without_point t
without_digits [] t h = refl
without_digits (d ∷ s) t h = rw (ne_eqb d 46 (λ e. omega (arith, h.0.0))) (ap (λ (x : List ℕ). d ∷ x) (without_digits s t h.1))

without_all : (s : List ℕ) → Digits 10 s → without_point s ≡ s
without_all s h = ap without_point (sym (append-nil s)) ∙ without_digits s [] h ∙ append-nil s

-- exactly as many digits as there are places stand behind the point, and they are the number's lowest
pub fixed_places : (places n : ℕ) → after_point (fixed (suc places) n) ≡ padded 10 (suc places) n
fixed_places places n = after-digits (decimal (n / 10 ^ suc places)) (padded 10 (suc places) n) (decimal-digits (n / 10 ^ suc places))

-- the digits before and behind the point mean the number
pub fixed-value : (places n : ℕ) → value 10 (without_point (fixed places n)) ≡ n
fixed-value zero n = ap (value 10) (without_all (decimal n) (decimal-digits n)) ∙ decimal-value n
fixed-value (suc places) n =
    ap (value 10)
    (ap without_point (append_assoc whole (46 ∷ []) behind)
    ∙ without_digits whole ((46 ∷ []) ++ behind) (decimal-digits (n / unit))
    ∙ ap (λ (t : List ℕ). whole ++ t) (without_all behind (padded-digits 10 (suc places) n (omega arith))))
    ∙ value-append 10 0 whole behind
    ∙ ap (λ (v : ℕ). value_from 10 v behind) (decimal-value (n / unit))
    ∙ padded-after 10 (suc places) (n / unit) n (omega arith)
    ∙ div-add-mod' n unit
  where
    unit : ℕ
    unit = 10 ^ suc places

    whole : List ℕ
    whole = decimal (n / 10 ^ suc places)

    behind : List ℕ
    behind = padded 10 (suc places) n

-- ---- the sign

first-digit : (s t : List ℕ) → Digits 10 s → 0 < length s → 48 ≤ first (s ++ t)
first-digit [] t h k = absurd (omega arith)
first-digit (d ∷ s) t h k = h.0.0

decimal-some : (n : ℕ) → 0 < length (decimal n)
decimal-some = by_digits (λ n t. 0 < length t) (λ n h. omega arith) (λ n t h k. omega (arith, length-append t (digit 10 n ∷ [])))

fixed-first : (places n : ℕ) → 48 ≤ first (fixed places n)
fixed-first zero n = rw append-nil at (first-digit (decimal n) [] (decimal-digits n) (decimal-some n))
fixed-first (suc places) n =
    rw append_assoc
    (first-digit (decimal (n / 10 ^ suc places)) ((46 ∷ []) ++ padded 10 (suc places) n) (decimal-digits (n / 10 ^ suc places)) (decimal-some (n / 10 ^ suc places)))

clash : (m n : ℕ) → pos m ≡ negsuc n → ⊥
clash m n e = let z : ◌≡◌ {A = ℕ} 0 1 = cc in omega arith

-- a minus stands exactly before a number below 0
pub minus_exactly : (places : ℕ) (z : ℤ) → (first (signed_fixed places z) ≡ 45) ↔ ((n : ℕ) × (z ≡ negsuc n))
minus_exactly places (pos n) = (λ e. absurd (omega (arith, fixed-first places n)), λ h. absurd (clash n h.0 h.1))
minus_exactly places (negsuc n) = (λ e. (n, refl), λ h. refl)

-- ---- how long a text is at most

short_step : (k n l : ℕ) → 10 ≤ n → n < 10 ^ suc k → ((j : ℕ) → n / 10 < 10 ^ suc j → l ≤ suc j) → l + 1 ≤ suc k
short_step zero n l h b f = absurd (omega arith)
short_step (suc k) n l h b f = let s : n / 10 < 10 ^ suc k = omega (arith, pow-suc 10 (suc k)) in omega (arith, f k s)

-- a number below 10^k has k digits at most
pub decimal-length : (k n : ℕ) → n < 10 ^ suc k → length (decimal n) ≤ suc k
decimal-length k n =
    by_digits (λ m t. (j : ℕ) → m < 10 ^ suc j → length t ≤ suc j) (λ m h j b. omega arith)
    (λ m t h f j b. rw (length-append t (digit 10 m ∷ [])) (short_step j m (length t) h b f)) n k

pub fixed-length : (k places n : ℕ) → n / 10 ^ places < 10 ^ suc k → length (fixed places n) ≤ suc k + 1 + places
fixed-length k zero n h = omega (arith, decimal-length k n (rw (pow-zero 10, div-one n) at h))
fixed-length k (suc places) n h =
    omega
    (arith, length-append (decimal (n / 10 ^ suc places) ++ (46 ∷ [])) (padded 10 (suc places) n), length-append (decimal (n / 10 ^ suc places)) (46 ∷ []), decimal-length k (n / 10 ^ suc places) h, padded-length 10 (suc places) n)

pub signed-length : (k places : ℕ) (z : ℤ) → nat_abs z / 10 ^ places < 10 ^ suc k → length (signed_fixed places z) ≤ suc k + 2 + places
signed-length k places (pos n) h = omega (arith, fixed-length k places n h)
signed-length k places (negsuc n) h = omega (arith, fixed-length k places (suc n) h)
