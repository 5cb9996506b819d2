use Rattle.std.proofs.Common.{◌-◌, arith}
use Rattle.sm_exact.proofs.BoundsLemmas.{least_turn}
use Rattle.sm_exact.proofs.bounds.least_variable.Goals as goal

pub loop-i-preserved : goal.loop-i-preserved
loop-i-preserved c = record {
  within = omega arith;
  least = least_turn c.loop-i.i (c.loop-i.i - 1) c.args.forms.now c.index-forms-i.result c.parts.result.now c.loop-i.least
      c.lesser_first-least.result (omega arith) (omega arith) c.index-forms-i.is c.parts.ensures.parts c.loop-i.invariant.least
      c.lesser_first-least.ensures;
}
