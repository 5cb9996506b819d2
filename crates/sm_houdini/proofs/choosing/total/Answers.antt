use Rattle.std.proofs.Common.{length, ap, arith}
use Rattle.sm_houdini.proofs.LoopLemmas.{taken}
use Rattle.sm_houdini.proofs.TotalsLemmas.{total_put}
use Rattle.sm_houdini.proofs.choosing.total.Goals as goal

pub loop-numbers-preserved : goal.loop-numbers-preserved
loop-numbers-preserved c =
    let xs = c.deref-numbers-items.result.now in
    let i = c.loop-numbers.numbers-index in
    total_put c.loop-numbers.count c.in-Some.count (length c.as_slice.result.now) xs i c.numbers-item.result (omega arith)
    c.in-Some.ensures.1 (ap length c.as_slice.ensures.value) c.loop-numbers.invariant
    (taken xs i c.numbers-item.result c.loop-numbers-test.true c.numbers-item.is)
