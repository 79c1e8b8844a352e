-- The buffer has room for every text (specs/Whole.antt), so the answer is never a refusal.
use Rattle.std.proofs.Common.{rules}
use Rattle.listing.specs.WholeLemmas.{never_refused}
use Rattle.field_lines.specs.FieldLines.{text_of}
use Rattle.list_fields.specs.Whole.{fits}
use Rattle.list_fields.proofs.list_whole.Goals as goal

pub returns-in-Err-clause-text_after : goal.returns-in-Err-clause-text_after
returns-in-Err-clause-text_after c = absurd (never_refused (text_of c.args.sheet.now) c.args.text.now (fits c.args.sheet.now c.args.text.now (search rules)) c.list_fields.result c.list_fields.ensures.answer c.in-Err.field-0 c.in-Err.is)
