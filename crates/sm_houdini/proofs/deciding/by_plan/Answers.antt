use Rattle.sm_houdini.proofs.Imports.{subst, sketch_of}
use Rattle.sm_text.specs.Tasks.{parts_of}
use Rattle.sm_sketch.specs.Errors.{TellsSketch}
use Rattle.sm_sketch.specs.declared.error.ProductError.{ProductError}
use Rattle.sm_product.proofs.LargeTasks.{large_task}
use Rattle.sm_houdini.proofs.EndedLemmas.{too_many}
use Rattle.sm_houdini.proofs.deciding.by_plan.Goals as goal

pub sketch_of-requires-clause-no_hole : goal.sketch_of-requires-clause-no_hole
sketch_of-requires-clause-no_hole g c = c.requires.searchable

pub returns-in-Err-TooMany-clause-tells : goal.returns-in-Err-TooMany-clause-tells
returns-in-Err-TooMany-clause-tells g c =
    let t = parts_of c.args.task.now in
    too_many t c.args.reach
    (large_task t (subst (λ (e : ProductError). TellsSketch e (sketch_of t)) c.in-Err-TooMany.field-0-is c.in-Err-TooMany.ensures.err))
