-- Document 01's table of layouts: the fields and the zero bits of each kind of word.
-- Assumes nothing.
use Rattle.std.specs.Prelude.{◌≡◌, refl, T}
use Rattle.bits.specs.Layout.{contiguous, size}
use Rattle.records.specs.All.{agree, every}
use Rattle.records.specs.declared.Kind.{Kind}
use Rattle.records.specs.Layouts.{word_layout}

-- every layout has each of the 32 bits once
pub whole : (k : Kind) → T (contiguous 0 (word_layout k))
whole = every (λ k. contiguous 0 (word_layout k)) refl

pub whole-size : (k : Kind) → size (word_layout k) ≡ 32
whole-size = agree (λ k. size (word_layout k)) (λ k. 32) refl
