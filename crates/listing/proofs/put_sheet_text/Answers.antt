-- The text is written only where it fits (specs/BufferLemmas.antt).
use Rattle.std.proofs.Common.{rules}
use Rattle.listing.specs.BufferLemmas.{stored}
use Rattle.listing.proofs.put_sheet_text.Goals as goal

pub returns-clause-content : goal.returns-clause-content
returns-clause-content g c =
    let short = g.met.T.SheetText.within_limit c.args.sheet.now in
    (stored (g.T.SheetText.text_of c.args.sheet.now) _ _ _ (search rules) c.put-2.ensures (search rules)).1
