-- When a part is refused: exactly when it is not in sequence, and then nothing is held.
use Rattle.std.specs.Prelude.{ℕ, ◌≡◌, refl, Bool}
use Rattle.std.proofs.Common.{arith}
use Rattle.reassembly_parts.specs.declared.Part.{Part}
use Rattle.reassembly_parts.specs.declared.Part.TheVariants.{Four}
use Rattle.reassembly_parts.specs.declared.Answer.TheVariants.{OutOfSequence}
use Rattle.reassembly_parts.specs.declared.Reassembly.{Reassembly}
use Rattle.reassembly_parts.specs.declared.Reassembly.TheVariants.{AfterThree}
use Rattle.reassembly_parts.specs.Take.{bits_of, completed, take_of, same_source}
use Rattle.reassembly_parts.specs.Sequence.{InSequence, second-taken, third-taken, first, second, third, fourth}

pub fourth_taken : (s a b c d : ℕ) (m : Bool) → take_of (AfterThree s a b c) (Four s d m) ≡ completed (bits_of a b c d) m
fourth_taken s a b c d m = same_source s s _ refl

pub in_sequence : (r : Reassembly) (p : Part) → InSequence r p → (take_of r p).answer ≡ OutOfSequence → ⊥
in_sequence r p (first {s} {a}) e = let z : ◌≡◌ {A = ℕ} 0 1 = cc in omega arith
in_sequence r p (second {s} {a} {b}) e = let z : ◌≡◌ {A = ℕ} 0 1 = cc (second-taken s a b) in omega arith
in_sequence r p (third {s} {a} {b} {c}) e = let z : ◌≡◌ {A = ℕ} 0 1 = cc (third-taken s a b c) in omega arith
in_sequence r p (fourth {s} {a} {b} {c} {d} {m}) e = let z : ◌≡◌ {A = ℕ} 0 1 = cc (fourth_taken s a b c d m) in omega arith
