-- The number 0 in the field of the refusal tells a record from a refusal, and the numbers of an accepted word are no other word's.
-- Assumes nothing.
use Rattle.std.specs.Prelude.{◌≡◌, ℕ, ◌^◌, ◌<◌, Ok}
use Rattle.std.proofs.Common.{sym, ap, ◌∙◌}
use Rattle.records.specs.declared.Record.{Record}
use Rattle.decode.specs.Decode.{decode_of}
use Rattle.flat_records.specs.Numbers.{flat_of}
use Rattle.flat_records.specs.declared.FlatRecord.{FlatRecord}
use Rattle.flat_words.specs.Words.{encode_flat}
use Rattle.flat_words.specs.declared.FlatWord.{FlatWord}
use Rattle.flat_laws.proofs.Words.{word_back}
use Rattle.flat_laws.specs.Refusals.{accepted-number, number-accepted}

-- two words of the same numbers, the first of them accepted, are one
pub numbers_once : (w v : ℕ) (r : Record) → w < 2 ^ 32 → v < 2 ^ 32 → decode_of w ≡ Ok r → flat_of (decode_of w) ≡ flat_of (decode_of v) → w ≡ v
numbers_once w v r h i e same =
    let zero-at = ap (λ (f : FlatRecord). f.refusal) (sym same ∙ ap flat_of e) ∙ accepted-number r in
    let other = number-accepted (decode_of v) zero-at in
    ap (λ (y : FlatWord). y.word) (sym (word_back w r h e) ∙ ap encode_flat same ∙ word_back v other.0 i other.1)
