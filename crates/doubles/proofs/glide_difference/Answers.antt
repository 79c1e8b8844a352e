-- The operations are those of `glide_of`, as the literal computes to the double of 5120; the value is the law's, `glide_nearest`.
use borrow.Author.Rules.{rules}
use lib.Ieee.{of_bits, of_int}
use Rattle.doubles.specs.Nearest.{IsNearest}
use Rattle.doubles.specs.Doubles.{glide_of}
use Rattle.doubles.proofs.Doubles.{glide_nearest}
use Rattle.doubles.proofs.Count.{at_count}
use Rattle.doubles.proofs.glide_difference.Goals as goal

pub returns-clause-operations : goal.returns-clause-operations
unfolding of_bits of_int
returns-clause-operations c =
    (at_count glide_of (λ n x. IsNearest x n 5120) glide_nearest c.args.count.0 (search rules)).0

pub returns-clause-nearest : goal.returns-clause-nearest
unfolding of_bits of_int
returns-clause-nearest c =
    (at_count glide_of (λ n x. IsNearest x n 5120) glide_nearest c.args.count.0 (search rules)).1
