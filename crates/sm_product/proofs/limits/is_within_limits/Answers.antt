-- Whether what the plan of all templates asks is within the limits.
use Rattle.sm_product.proofs.Imports.{ap, ◌∙◌, parts_of, trees_in, sorts_in, plan_in, kept_by, plan_with, sketch_size}
use Rattle.sm_product.proofs.SizesLemmas.{small_ok}
use Rattle.sm_product.proofs.limits.is_within_limits.Goals as goal

pub is_plan_within-requires-clause-plan : goal.is_plan_within-requires-clause-plan
is_plan_within-requires-clause-plan c =
    let v = c.args.table.now in c.in_ok-plan.ensures.ready (sorts_in v) (trees_in v) c.requires.ready

pub returns-clause-small : goal.returns-clause-small
returns-clause-small c =
    let v = c.args.table.now in
    let k = c.requires in
    small_ok (parts_of c.args.task.now) c.args.sketch.now.extent.nodes (plan_in (sorts_in v) (trees_in v) c.in_ok-plan.plan)
    (c.in_ok-plan.ensures.made (sorts_in v) (trees_in v) k.ready ∙ (λ i. plan_with (kept_by (k.full i)) 0 (k.sketch i)))
    (k.ready.nodes ∙ ap sketch_size k.sketch) c.is_plan_within.result c.is_plan_within.ensures.within
