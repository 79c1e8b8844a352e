-- What the proofs of the writers cite: the byte at each place, and one line more.
-- Assumes nothing.
use Rattle.std.specs.Prelude.{◌≡◌, true, ℕ, ◌<◌, get_or}
use Rattle.records.specs.declared.Kind.TheVariants.{VorAzimuth}
use Rattle.labels.specs.BytesLemmas.{over_bytes}
use Rattle.labels.specs.Table.{byte_of}
use Rattle.label_texts.specs.LabelTexts.{bytes_below, shown_bytes}
use Rattle.label_texts.specs.Writers.{shown_at}

-- of all bytes it is the place itself, and of the fifteen labels the byte of the kind there
pub any_byte : (b : ℕ) → b < 256 → shown_at true b ≡ b
unfolding shown_bytes
any_byte = over_bytes (λ (b : ℕ). get_or (bytes_below 256) b (byte_of VorAzimuth)) (λ (b : ℕ). b) tt
