-- By the length of the content and its first byte.
use Rattle.std.proofs.Common.{sym, ap, ◌∙◌, arith}
use Rattle.typed_pairs.specs.Pairs.{content_of, line_of}
use Rattle.typed_pairs.specs.Lemmas.{empty_passed, comment_passed, long_unread, pair_content}
use Rattle.pair_reader.proofs.read_line.Goals as goal

pub returns-then-content-eq0 : goal.returns-then-content-eq0
unfolding line_of
returns-then-content-eq0 c =
    let content = c.without_return-content in
    sym (empty_passed content.result.now (omega arith)) ∙ ap content_of content.ensures

pub returns-then-content-eq35 : goal.returns-then-content-eq35
unfolding line_of
returns-then-content-eq35 c =
    let content = c.without_return-content in
    sym (comment_passed content.result.now (omega arith) (omega arith)) ∙ ap content_of content.ensures

pub returns-then-content-gt200 : goal.returns-then-content-gt200
unfolding line_of
returns-then-content-gt200 c =
    let content = c.without_return-content in
    sym (long_unread content.result.now (omega arith) (omega arith)) ∙ ap content_of content.ensures

pub returns : goal.returns
unfolding line_of
returns c =
    let content = c.without_return-content in
    c.read_pair.ensures
    ∙ sym (pair_content content.result.now (omega arith) (omega arith) (omega arith)) ∙ ap content_of content.ensures
