use Rattle.std.proofs.Common.{arith}
use Rattle.sm_io.proofs.SinkLemmas.{adds_more}
use Rattle.sm_io.proofs.put.put_all.Goals as goal

pub loop-done-preserved : goal.loop-done-preserved
loop-done-preserved g c = record {
  within = grind arith;
  added = adds_more _ _ _ _ _ _ c.loop-done.invariant.added c.in_ok-done.ensures.ok;
  count = grind arith;
}
