-- What a legal body writes fits its layout, so that the word has 32 bits.
-- Assumes nothing.
use Rattle.std.specs.Prelude.{◌≡◌, refl, true, [], ◌∷◌, ◌++◌, ℕ, ◌+◌, ◌*◌, ◌/◌, ◌%◌, ◌<◌, leb}
use Rattle.std.proofs.Common.{arith, leb-true}
use Rattle.bits.specs.Layout.{Fit, size}
use Rattle.frequencies.specs.Frequencies.{tens_code, tens_code_lt}
use Rattle.channels.specs.Channels.{legal_frequency, legal_expressible}
use Rattle.records.specs.All.{agree}
use Rattle.records.specs.Kinds.{kind_of}
use Rattle.records.specs.Layouts.{upper_layout}
use Rattle.frequencies.specs.declared.Band.{Band}
use Rattle.records.specs.declared.Body.{Body}
use Rattle.records.specs.declared.Kind.{Kind}
use Rattle.records.specs.declared.Record.{Record}
use Rattle.statuses.specs.declared.Status.{Status}
use Rattle.labels.specs.Label.{label_of}
use Rattle.encode.specs.Fields.{fields_of, status_bits}
use Rattle.encode.specs.Encode.{upper_bits, lower_as}

pub below : (n k : ℕ) → leb n k ≡ true → n < k + 1
below n k e = omega (arith, leb-true n k e)

abbrev pub Writes : Body → Type 0
Writes b = Fit (upper_layout (kind_of b)) (fields_of b ++ (status_bits b ∷ []))

pub digit : (n : ℕ) → n % 10 < 16
digit n = omega arith

pub tens_fit : (b : Band) (s : Status) (f : ℕ) → legal_frequency b s f ≡ true → tens_code b (f / 1000 % 10) < 8
tens_fit b s f e = tens_code_lt b f (legal_expressible b s f e)

-- bits 11 to 31 are 21 bits
pub upper-size : (k : Kind) → size (upper_layout k) ≡ 21
upper-size = agree (λ k. size (upper_layout k)) (λ k. 21) refl

-- bits 1 to 31
pub lower_is : (label : ℕ) (r : Record) → lower_as label r ≡ (upper_bits r.body * 4 + r.source) * 256 + label_of label
lower_is label r = refl
