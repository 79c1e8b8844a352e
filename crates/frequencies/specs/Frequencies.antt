-- Frequencies in tens of kHz, and their decimal digits as the words send them.
-- Assumes nothing.
use Rattle.std.specs.Prelude.{◌≡◌, Bool, true, not, ◌&&◌, ℕ, zero, suc, ◌+◌, ◌*◌, ◌/◌, ◌%◌, ◌≤◌, ◌<◌, eqb, leb}
use Rattle.std.proofs.Common.{arith, leb-true}
use Rattle.bits.specs.Fields.{bits}
use Rattle.bits.specs.Laws.{both_true}
use Rattle.frequencies.specs.declared.Band.{Band}
use Rattle.frequencies.specs.declared.Band.TheVariants.{Vor, Ils, Mls}

-- VOR and ILS words leave out 100 MHz, MLS words 5000 MHz
abbrev pub offset : Band → ℕ
offset Vor = 10000
offset Ils = 10000
offset Mls = 500000

-- MLS tens 8 and 9 are sent as 0 and 1; every other number is taken for itself, 2 too, which is no code and is refused with 4 before
abbrev pub mls_tens : ℕ → ℕ
mls_tens zero = 8
mls_tens (suc zero) = 9
mls_tens (suc (suc n)) = suc (suc n)

-- the tens digit that a code of 3 bits means
abbrev pub tens_of : Band → ℕ → ℕ
tens_of Vor c = c
tens_of Ils c = c
tens_of Mls c = mls_tens c

-- for MLS, 2 is no code
abbrev pub tens_listed : Band → ℕ → Bool
tens_listed Vor c = true
tens_listed Ils c = true
tens_listed Mls c = not (eqb c 2)

-- the code of a tens digit
abbrev pub tens_code : Band → ℕ → ℕ
tens_code Vor d = d
tens_code Ils d = d
tens_code Mls d = d % 8

-- the frequency that these digits give: hundredths, tenths, units of a MHz, and the code of the tens
abbrev pub frequency_of : Band → ℕ → ℕ → ℕ → ℕ → ℕ
frequency_of b hundredths tenths units tens = offset b + (((tens_of b tens * 10 + units) * 10 + tenths) * 10 + hundredths)

-- the frequency in bits 15 to 29 of a word
abbrev pub frequency_in : Band → ℕ → ℕ
frequency_in b w = frequency_of b (bits 15 18 w) (bits 19 22 w) (bits 23 26 w) (bits 27 29 w)

-- What the four digits of a word can say, legal or not: VOR and ILS 100.00 to 179.99 MHz, MLS 5030.00 to 5099.99 MHz. Which of them are legal is
-- told in `channels`.
abbrev pub expressible : Band → ℕ → Bool
expressible Vor f = leb 10000 f && leb f 17999
expressible Ils f = leb 10000 f && leb f 17999
expressible Mls f = leb 503000 f && leb f 509999

-- a tens digit is at most 8 above its code
pub tens_le : (b : Band) (c : ℕ) → tens_of b c ≤ c + 8
tens_le Vor c = omega arith
tens_le Ils c = omega arith
tens_le Mls zero = omega arith
tens_le Mls (suc zero) = omega arith
tens_le Mls (suc (suc c)) = omega arith

pub offset-le : (b : Band) → offset b ≤ 500000
offset-le Vor = omega arith
offset-le Ils = omega arith
offset-le Mls = omega arith

-- the code of a tens digit is no greater than it
pub tens_code_le : (b : Band) (d : ℕ) → tens_code b d ≤ d
tens_code_le Vor d = omega arith
tens_code_le Ils d = omega arith
tens_code_le Mls d = omega arith

-- what the test says
within : (l h f : ℕ) → (leb l f && leb f h) ≡ true → (l ≤ f) × (f ≤ h)
within l h f e =
    let b = both_true (leb l f) (leb f h) e in
    (leb-true l f b.0, leb-true f h b.1)

pub vhf_range : (f : ℕ) → expressible Vor f ≡ true → (10000 ≤ f) × (f ≤ 17999)
vhf_range = within 10000 17999

pub mls_range : (f : ℕ) → expressible Mls f ≡ true → (503000 ≤ f) × (f ≤ 509999)
mls_range = within 503000 509999

vhf_tens : (f : ℕ) → (10000 ≤ f) × (f ≤ 17999) → f / 1000 % 10 < 8
vhf_tens f r = omega arith

-- the code of its tens has 3 bits
pub tens_code_lt : (b : Band) (f : ℕ) → expressible b f ≡ true → tens_code b (f / 1000 % 10) < 8
tens_code_lt Vor f e = vhf_tens f (vhf_range f e)
tens_code_lt Ils f e = vhf_tens f (vhf_range f e)
tens_code_lt Mls f e = omega arith
