-- The operations are those of `course_of`, as the literal computes to the double of 10240; the value is the law's, `course_nearest`.
use borrow.Author.Rules.{rules}
use lib.Ieee.{of_bits, of_int}
use Rattle.doubles.specs.Nearest.{IsNearest}
use Rattle.doubles.specs.Doubles.{course_of}
use Rattle.doubles.proofs.Doubles.{course_nearest}
use Rattle.doubles.proofs.Count.{at_count}
use Rattle.doubles.proofs.course_difference.Goals as goal

pub returns-clause-operations : goal.returns-clause-operations
unfolding of_bits of_int
returns-clause-operations c =
    (at_count course_of (λ n x. IsNearest x n 10240) course_nearest c.args.count.0 (search rules)).0

pub returns-clause-nearest : goal.returns-clause-nearest
unfolding of_bits of_int
returns-clause-nearest c =
    (at_count course_of (λ n x. IsNearest x n 10240) course_nearest c.args.count.0 (search rules)).1
