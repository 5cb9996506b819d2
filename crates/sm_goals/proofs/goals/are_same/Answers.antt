use Rattle.std.proofs.Common.{◌<◌, length, arith}
use Rattle.sm_goals.proofs.FormsLemmas.{same_put}
use Rattle.sm_goals.proofs.goals.are_same.Goals as goal

pub loop-n-preserved : goal.loop-n-preserved
loop-n-preserved c =
    let count = c.if-list-others.false in
    let other : c.loop-n.n < length c.args.others.now = omega (arith, count, c.loop-n-test.true) in
    same_put c.args.list.now c.args.others.now c.loop-n.n c.index-list-n.result c.index-others-n.result c.loop-n-test.true other
    c.index-list-n.is c.index-others-n.is (c.is_same_formula.ensures.equal c.if-not-is_same_formula.false) c.loop-n.invariant
