-- The operations are those of `millivolts_of`, as the literals compute to the doubles of 75 and 1024; the value is the law's, `millivolts_exact`.
use borrow.Author.Rules.{rules}
use lib.IntN.{pos, ◌*ℤ◌}
use lib.Ieee.{of_bits, of_int}
use Rattle.doubles.specs.Exact.{IsExactly}
use Rattle.doubles.specs.Doubles.{millivolts_of}
use Rattle.doubles.proofs.Doubles.{millivolts_exact}
use Rattle.doubles.proofs.Count.{at_count}
use Rattle.doubles.proofs.mls_millivolts.Goals as goal

pub returns-clause-operations : goal.returns-clause-operations
unfolding of_bits of_int
returns-clause-operations c =
    (at_count millivolts_of (λ n x. IsExactly x (n *ℤ pos 75) 1024) millivolts_exact c.args.count.0 (search rules)).0

pub returns-clause-value : goal.returns-clause-value
unfolding of_bits of_int
returns-clause-value c =
    (at_count millivolts_of (λ n x. IsExactly x (n *ℤ pos 75) 1024) millivolts_exact c.args.count.0 (search rules)).1
