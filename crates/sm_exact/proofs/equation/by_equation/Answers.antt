-- The part that was found stands in the equation.
use Rattle.sm_exact.proofs.RowLemmas.{part_here}
use Rattle.sm_exact.proofs.equation.by_equation.Goals as goal

pub by_unit-requires-clause-part : goal.by_unit-requires-clause-part
by_unit-requires-clause-part c =
    part_here c.args.forms.items c.args.place c.index.result.now c.parts.result.now c.least_part-part.result c.requires.within
    c.index.ensures
    c.parts.ensures.parts c.parts.ensures.kept c.requires c.least_part-part.ensures

pub by_modular-requires-clause-part : goal.by_modular-requires-clause-part
by_modular-requires-clause-part c =
    part_here c.args.forms.items c.args.place c.index.result.now c.parts.result.now c.least_part-part.result c.requires.within
    c.index.ensures
    c.parts.ensures.parts c.parts.ensures.kept c.requires c.least_part-part.ensures
