use Rattle.sm_houdini.proofs.Imports.{◌∙◌, trees_in, sorts_in, kept_by, plan_with}
use Rattle.sm_houdini.proofs.deciding.ended.Goals as goal

pub certified-requires-clause-made : goal.certified-requires-clause-made
certified-requires-clause-made g c κs within =
    let v = c.args.table.now in
    let k = c.requires.knows in
    c.in_ok-plan.ensures.made (sorts_in v) (trees_in v) k.ready ∙ (λ i. plan_with (kept_by (c.requires.kept i)) 0 (k.sketch i))

pub certified-requires-clause-ready : goal.certified-requires-clause-ready
certified-requires-clause-ready g c κs within =
    let v = c.args.table.now in c.in_ok-plan.ensures.ready (sorts_in v) (trees_in v) c.requires.knows.ready
