use Rattle.std.proofs.Common.{sym, ◌∙◌}
use Rattle.sm_num.proofs.Divisors.{gcd-step, gcd-zero}
use Rattle.sm_num.proofs.dividing.common_divisor.Goals as goal

pub loop-y-preserved : goal.loop-y-preserved
loop-y-preserved c = sym (gcd-step c.loop-y.x c.loop-y.y) ∙ c.loop-y.invariant

pub returns : goal.returns
returns c = sym (gcd-zero c.loop-y.x c.loop-y.y c.loop-y-test.false) ∙ c.loop-y.invariant
