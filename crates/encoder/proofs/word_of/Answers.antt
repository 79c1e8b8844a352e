-- The word fits: what is written above bit 10 has 21 bits, and the label 8.
use mathlib.Core.Path.{sym, subst}
use Prim.Native.Nat.{ℕ, ◌<◌}
use native.Mathlib.Omega.{arith}
use Rattle.labels.proofs.LabelLaws.{label_lt}
use Rattle.encode.proofs.Laws.{upper_lt}
use Rattle.encoder.proofs.word_of.Goals as goal

pub overflow_add-result : goal.overflow_add-result
overflow_add-result c =
    let u : c.upper_bits.result < 2097152 = subst (λ (x : ℕ). x < 2097152) (sym c.upper_bits.ensures) (upper_lt c.args.«record».body c.requires.1) in
    let b : c.label_of.result < 256 = subst (λ (x : ℕ). x < 256) (sym c.label_of.ensures) (label_lt c.args.label) in
    omega (arith, u, b)
