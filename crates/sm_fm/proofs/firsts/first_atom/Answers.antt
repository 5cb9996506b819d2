-- A form begins with the atom of its first part.
use Rattle.std.proofs.Common.{◌<◌, length, arith, tests}
use Rattle.sm_fm.proofs.FirstLemmas.{begins_first, begins_past, begins_nowhere}
use Rattle.sm_fm.proofs.firsts.first_atom.Goals as goal

pub returns-then-first-end : goal.returns-then-first-end
returns-then-first-end c =
    let some : 0 < length c.parts-parts.result.now = grind (arith, tests) in
    begins_first c.args.end c.args.f.now c.parts-parts.result.now c.parts-parts.ensures.parts c.parts-parts.ensures.kept.parts some

pub returns-else-first-end : goal.returns-else-first-end
returns-else-first-end c =
    let some : 0 < length c.parts-parts.result.now = grind (arith, tests) in
    begins_past c.args.end c.args.f.now c.parts-parts.result.now c.parts-parts.ensures.parts c.parts-parts.ensures.kept.parts some
    (omega arith)

pub returns-then-is_empty : goal.returns-then-is_empty
returns-then-is_empty c =
    begins_nowhere c.args.end c.args.f.now c.parts-parts.result.now c.parts-parts.ensures.parts (grind (arith, tests))
