-- Each part is compared with the least so far.
use Rattle.std.proofs.Common.{pos, sym, ◌∙◌}
use Rattle.sm_exact.proofs.RowLemmas.{least_first, least_next, least_last}
use Rattle.sm_exact.proofs.equation.least_part.Goals as goal

pub loop-part-init : goal.loop-part-init
loop-part-init c = least_first c.args.parts.now (0, pos 0) c.requires

pub loop-part-preserved : goal.loop-part-preserved
loop-part-preserved c =
    sym (least_next c.loop-part.least c.args.parts.now c.loop-part.part-index (0, pos 0) c.lesser-least.result c.loop-part-test.true
    c.lesser-least.ensures)
    ∙ c.loop-part.invariant

pub returns : goal.returns
returns c =
    sym (least_last c.loop-part.least c.args.parts.now c.loop-part.part-index c.loop-part-test.false) ∙ c.loop-part.invariant
