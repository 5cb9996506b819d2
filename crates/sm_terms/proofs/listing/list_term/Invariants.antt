-- The steps that are left make the terms that are wanted.
use Rattle.sm_terms.proofs.Imports.{trees_in, tree_at, with_term, trees_at, Leads, cost_of_steps}
use Rattle.sm_terms.proofs.listing.list_term.Given as goal

abbrev pub invariant-loop-step : goal.invariant-loop-step
invariant-loop-step l =
    let trees = trees_in l.table in
    Leads trees l.listed l.steps.items (with_term (tree_at trees l.fn.t.0) (trees_at trees l.fn.listed))

abbrev pub decreases-loop-step : goal.decreases-loop-step
decreases-loop-step l = cost_of_steps (trees_in l.table) l.steps.items
