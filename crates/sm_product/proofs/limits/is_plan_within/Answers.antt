-- What the plan asks, or why it asks nothing.
use Rattle.sm_product.proofs.Imports.{List, sym, ap, ◌∙◌, subst, task_of, parts_of, trees_in, sorts_in, obligations, plan_in, dues_in, FaultTells, is_within}
use Rattle.std.proofs.Common.{Ok}
use Rattle.sm_expand.specs.declared.fault.PlanFault.{PlanFault}
use Rattle.sm_expand.specs.declared.due.Due.{Due}
use Rattle.sm_product.proofs.SizesLemmas.{fault_within}
use Rattle.sm_product.proofs.limits.is_plan_within.Goals as goal

pub returns-in-Ok-clause-within : goal.returns-in-Ok-clause-within
returns-in-Ok-clause-within c =
    let w = c.obligations_of.new.table in
    let n = c.args.nodes in
    c.are_within.ensures (sorts_in w) (trees_in w)
    ∙ ap (λ (ds : List Due). is_within n (Ok (dues_in (sorts_in w) (trees_in w) ds))) c.deref.ensures.value
    ∙ ap (is_within n) (sym c.in-Ok.ensures.ok)

pub returns-in-Err-Wrong-clause-within : goal.returns-in-Err-Wrong-clause-within
returns-in-Err-Wrong-clause-within c =
    let v = c.args.table.now in
    let asks = obligations (task_of (parts_of c.args.task.now)) (plan_in (sorts_in v) (trees_in v) c.args.plan.now) in
    fault_within c.args.nodes asks _
    (subst (λ (e : PlanFault). FaultTells e asks) c.in-Err-Wrong.field-0-is c.in-Err-Wrong.ensures.err)

pub returns-in-Err-Deep-clause-within : goal.returns-in-Err-Deep-clause-within
returns-in-Err-Deep-clause-within c =
    let v = c.args.table.now in
    let asks = obligations (task_of (parts_of c.args.task.now)) (plan_in (sorts_in v) (trees_in v) c.args.plan.now) in
    fault_within c.args.nodes asks _
    (subst (λ (e : PlanFault). FaultTells e asks) c.in-Err-Deep.field-0-is c.in-Err-Deep.ensures.err)
