-- The bytes that are taken and counted are those of the run (`run_is_prefix`).
use Rattle.std.proofs.Common.{rules, tests, sym, ◌∙◌}
use Rattle.std.proofs.lemmas.Iterator.{YieldsList-from_slice}
use Rattle.std.proofs.lemmas.Iterator.Consumers.{count_from_yields_List}
use Rattle.std.proofs.lemmas.Iterator.Search.{YieldsList-from_take_while}
use Rattle.std.proofs.lemmas.List.Folds.{length-prefix_len}
use Rattle.typed_lines.specs.Lines.{in_run}
use Rattle.line_parts.proofs.Runs.{run_is_prefix}
use Rattle.line_parts.proofs.run_length.Goals as goal

pub returns : goal.returns
returns c =
    let text = c.args.text.now in
    let run = in_run c.args.blanks in
    count_from_yields_List c.take_while.result _ c.count.ensures.ran (YieldsList-from_take_while _ run (YieldsList-from_slice text (cc)) c.take_while.ensures.closure c.take_while.ensures.done (λ x b q k. search (rules, tests)))
    ∙ length-prefix_len run text ∙ sym (run_is_prefix c.args.blanks text)
