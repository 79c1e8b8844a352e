-- Each turn answers a line and goes over to what stands behind it (proofs/Going.antt).
use native.Mathlib.Omega.{arith}
use Rattle.std.proofs.lemmas.Bool.Decides.{nat_tests}
use Rattle.explain_texts.proofs.Going.{going_on, less_left}
use Rattle.explain_texts.proofs.explain_text.Goals as goal

pub loop-ahead-smaller : goal.loop-ahead-smaller
loop-ahead-smaller c = less_left c.loop-ahead.ahead.now _ (grind (arith, nat_tests)) c.text_behind-ahead.ensures

pub loop-ahead-preserved : goal.loop-ahead-preserved
loop-ahead-preserved c =
    let loop = c.loop-ahead in
    going_on c.args.text.now c.args.before c.args.out.now loop.out loop.answered loop.ahead.now loop.invariant (grind (arith, nat_tests)) _ _ c.text_before-line.ensures c.text_behind-ahead.ensures _ _ c.put_line-answered.ensures.text c.put_line-answered.ensures.progress
