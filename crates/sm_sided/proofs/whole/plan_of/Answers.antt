-- The nodes are those of the whole plan.
use Rattle.sm_sided.proofs.Imports.{refl, Copy, of_copy, code_of}
use Rattle.sm_expand.proofs.PlainPlans.{ends_ready}
use Rattle.sm_sided.proofs.WholeNodesLemmas.{whole_is, put_together}
use Rattle.sm_sided.proofs.whole.plan_of.Goals as goal

pub returns-clause-plan : goal.returns-clause-plan
returns-clause-plan c = λ sorts trees.
    whole_is sorts trees (λ (copy : Copy). code_of (of_copy c.args.programs.now copy)) _ refl
    (put_together _ _ _ _ _ _ _ _ _ c.new-list.ensures.items c.in_ok-add_summary.ensures c.in_ok-add_summary-2.ensures
    c.in_ok-add_summary-3.ensures c.in_ok-add_summary-4.ensures)

pub returns-clause-ready : goal.returns-clause-ready
returns-clause-ready c = λ sorts trees. ends_ready _ refl sorts trees
