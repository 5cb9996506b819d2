-- The goals from here on, with the certificates that are left, decide.
use Rattle.sm_audit.proofs.Imports.{◌++◌, List, drop, trees_in, sorts_in, State, forms_in, Goal, AreGoalsFit, AreSince}
use Rattle.sm_audit.proofs.BranchLemmas.{goals_over}
use Rattle.sm_audit.proofs.checking.check_due.Given as goal

abbrev pub invariant-loop-goal : goal.invariant-loop-goal
invariant-loop-goal l =
    let sorts = sorts_in l.table in
    let terms = trees_in l.table in
    let facts = forms_in sorts terms l.due.facts.list.items in
    (states : List State) (gs : List Goal) → AreSince sorts states terms l.since →
    AreGoalsFit sorts states terms (goals_over sorts terms l.due.node facts (drop l.goal-index l.goal-items) ++ gs) l.left →
    AreGoalsFit sorts states terms (goals_over sorts terms l.due.node facts l.goal-items ++ gs) l.trees
