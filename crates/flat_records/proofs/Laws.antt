-- What the numbers of a part of group C tell: its content, and beside it of part 1 the word number and of part 4 the parity mark.
-- Assumes nothing.
use Rattle.std.specs.Prelude.{◌≡◌, refl, ℕ}
use Rattle.records.specs.declared.Body.{Body}
use Rattle.flat_records.specs.Numbers.{flat_numbers}

pub part_1_told : (n s number content : ℕ) →
    ((flat_numbers n s (Body.Part1 number content)).word_number ≡ number) × ((flat_numbers n s (Body.Part1 number content)).value ≡ content)
part_1_told n s number content = (refl, refl)
