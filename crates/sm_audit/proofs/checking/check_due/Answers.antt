-- A goal's certificate stands before those of the others.
use Rattle.sm_audit.proofs.Imports.{◌++◌, List, length, sym, subst, drop_all, Formula, trees_in, sorts_in, AreFormsReady, forms_in, AreGoalsFit}
use Rattle.sm_audit.proofs.BranchLemmas.{form_ready_at, goal_before, goals_over}
use Rattle.sm_audit.proofs.checking.check_due.Goals as goal

pub check_goal-requires-clause-goal : goal.check_goal-requires-clause-goal
check_goal-requires-clause-goal c =
    let sorts = sorts_in c.args.table.now in
    let trees = trees_in c.args.table.now in
    form_ready_at sorts trees c.deref-goal-items.result.now c.loop-goal.goal-index c.goal-item.result
    (subst (AreFormsReady sorts trees) (sym c.deref-goal-items.ensures.value) c.requires.goals) c.loop-goal-test.true c.goal-item.is

pub loop-goal-preserved : goal.loop-goal-preserved
loop-goal-preserved c = λ states gs all rest.
    let sorts = sorts_in c.args.table.now in
    let trees = trees_in c.args.table.now in
    let due = c.args.due.now in
    c.loop-goal.invariant states gs all
    (goal_before sorts trees states due.node (forms_in sorts trees due.facts.list.items) c.deref-goal-items.result.now gs
    c.loop-goal.goal-index c.goal-item.result c.in-Some.tree.now c.loop-goal.left.now c.in-Some.rest.now c.loop-goal-test.true
    c.goal-item.is c.in-Some.ensures.cases.0 (c.in_ok-check_goal-in-Some.ensures states all) rest)

pub returns : goal.returns
returns c = λ states gs all rest.
    let sorts = sorts_in c.args.table.now in
    let trees = trees_in c.args.table.now in
    let due = c.args.due.now in
    let facts = forms_in sorts trees due.facts.list.items in
    let items = c.deref-goal-items.result.now in
    subst (λ (fs : List Formula). AreGoalsFit sorts states trees (goals_over sorts trees due.node facts fs ++ gs) c.args.trees.now)
    c.deref-goal-items.ensures.value
    (c.loop-goal.invariant states gs all
    (subst (λ (fs : List Formula). AreGoalsFit sorts states trees (goals_over sorts trees due.node facts fs ++ gs) c.loop-goal.left.now)
    (sym (drop_all c.loop-goal.goal-index items c.loop-goal-test.false)) rest))
