use Rattle.std.proofs.Common.{length}
use Rattle.sm_cc.proofs.MarksLemmas.{below_at}
use Rattle.sm_cc.proofs.ExplainLemmas.{numbers_more}
use Rattle.sm_cc.proofs.explain.renumbered_list.Goals as goal

pub number_of-x-requires : goal.number_of-x-requires
number_of-x-requires c = below_at (length c.args.numbers.now) c.args.list.now c.loop-n.n-index c.requires c.loop-n-test.true

pub loop-n-preserved : goal.loop-n-preserved
loop-n-preserved c =
    numbers_more c.args.numbers.now c.args.list.now c.loop-n.found.items c.push.new.self.items c.loop-n.n-index c.number_of-x.result
    c.loop-n.invariant c.loop-n-test.true c.number_of-x.ensures c.in_ok-push.ensures.items
