use Rattle.sm_plan.proofs.laws.nodes_are_plans.Goals as goal
use Rattle.sm_plan.proofs.NodeListsExact.{plan_nodes_prove, nodes_are_plan}

pub returns-clause-prove : goal.returns-clause-prove
returns-clause-prove c = plan_nodes_prove

pub returns-clause-plan : goal.returns-clause-plan
returns-clause-plan c = nodes_are_plan
