use Rattle.std.proofs.Common.{pos}
use Rattle.sm_exact.proofs.ModularLemmas.{below_take}
use Rattle.sm_exact.proofs.modular.is_above.Goals as goal

pub loop-part-preserved : goal.loop-part-preserved
loop-part-preserved c =
    below_take c.args.s c.loop-part.part-index c.parts-parts.result.now (0, pos 0) c.loop-part.invariant c.loop-part-test.true
    c.if-part-s.false
