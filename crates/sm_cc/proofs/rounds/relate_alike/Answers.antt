-- One place more, and then all.
use Rattle.sm_cc.proofs.Imports.{sym, arith, met_at, alike_at}
use Rattle.sm_cc.proofs.FirstsLemmas.{firsts_tried_more, firsts_tried_all, alike_bring}
use Rattle.sm_cc.proofs.rounds.relate_alike.Goals as goal

pub loop-i-preserved : goal.loop-i-preserved
loop-i-preserved c =
    let old = c.loop-i.c in
    firsts_tried_more alike_at c.loop-i.i c.args.c.now old c.relate_first.new.c (met_at c.loop-i.met) (met_at c.relate_first.new.met)
    c.loop-i.invariant (c.in_ok-relate_first.ensures (alike_at old) (alike_bring old) (sym c.in_ok-key.ensures))

pub returns : goal.returns
returns c =
    firsts_tried_all alike_at c.loop-i.i c.args.c.now c.loop-i.c (met_at c.loop-i.met)
    (omega (arith, c.loop-i-test.false, c.len-i-end.ensures)) c.loop-i.invariant
