use Rattle.std.proofs.Common.{◌∙◌, arith}
use Rattle.sm_io.proofs.FileLemmas.{longer_more}
use Rattle.sm_io.proofs.put.append_all.Goals as goal

pub loop-done-preserved : goal.loop-done-preserved
loop-done-preserved g c = record {
  within = grind arith;
  added = longer_more _ _ _ _ _ _ c.loop-done.invariant.added c.in_ok-done.ensures.ok;
  held = grind arith;
  others = λ other ne. c.in_ok-done.ensures.others other ne ∙ c.loop-done.invariant.others other ne;
  count = grind arith;
  keeps = c.in_ok-done.ensures.keeps ∙ c.loop-done.invariant.keeps;
  reads = grind arith;
}
