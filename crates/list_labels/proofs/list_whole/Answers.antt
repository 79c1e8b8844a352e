-- The buffer has room for every text (`text_short`).
use Rattle.std.proofs.Common.{rules, ◌≡◌, arith, length}
use Rattle.text.specs.Writing.{whole}
use Rattle.label_texts.proofs.Theorems.{text_short}
use Rattle.list_labels.proofs.list_whole.Goals as goal

pub returns-clause-prefix_len : goal.returns-clause-prefix_len
returns-clause-prefix_len c = let room : 4096 ≡ length c.args.text.now = search rules in (whole c.put_labels.ensures (omega (arith, room, text_short c.args.all))).0

pub returns-clause-text_after : goal.returns-clause-text_after
returns-clause-text_after c = let room : 4096 ≡ length c.args.text.now = search rules in (whole c.put_labels.ensures (omega (arith, room, text_short c.args.all))).1
