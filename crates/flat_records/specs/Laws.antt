-- What the numbers of a part of group C tell: its content, and beside it of part 1 the word number and of part 4 the parity mark.
-- Assumes nothing.
use Rattle.std.specs.Prelude.{Bool, ◌≡◌, refl, ℕ}
use Rattle.codes.specs.Codes.{flag_bit}
use Rattle.records.specs.declared.Body.{Body}
use Rattle.flat_records.specs.Numbers.{flat_numbers}

pub part_2_told : (n s content : ℕ) → (flat_numbers n s (Body.Part2 content)).value ≡ content
part_2_told n s content = refl

pub part_3_told : (n s content : ℕ) → (flat_numbers n s (Body.Part3 content)).value ≡ content
part_3_told n s content = refl

pub part_4_told : (n s : ℕ) (good : Bool) (content : ℕ) →
    ((flat_numbers n s (Body.Part4 good content)).parity_good ≡ flag_bit good) × ((flat_numbers n s (Body.Part4 good content)).value ≡ content)
part_4_told n s good content = (refl, refl)
