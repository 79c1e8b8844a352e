-- The text is written only where it fits (specs/BufferLemmas.antt).
use Rattle.std.proofs.Common.{rules}
use Rattle.listing.specs.BufferLemmas.{stored}
use Rattle.listing.proofs.put_whole.Goals as goal

pub returns-clause-content : goal.returns-clause-content
returns-clause-content g c text puts short =
    (stored text _ _ _ (search rules) (puts _ _ _ c.put-2.ensures) (search rules)).1
