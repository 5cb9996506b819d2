use Rattle.sm_plan.proofs.laws.sorts_are_kept.Goals as goal
use Rattle.sm_plan.proofs.NodeSorted.{node_sorted}
use Rattle.sm_plan.proofs.SortedStates.{start_sorted}

pub returns-clause-kept : goal.returns-clause-kept
returns-clause-kept c = node_sorted

pub returns-clause-start : goal.returns-clause-start
returns-clause-start c = start_sorted
