-- The certificates of an obligation stand before those of the others.
use Rattle.sm_audit.proofs.Imports.{◌≡◌, ◌+◌, List, [], drop, eqb-true, length, sym, ◌∙◌, subst, drop_all, nil_from_length, trees_in, sorts_in, CertTree, dues_in, all_goals, AreGoalsFit}
use Rattle.sm_expand.specs.declared.due.Due.{Due}
use Rattle.sm_audit.proofs.BranchLemmas.{due_before, due_ready_at}
use Rattle.sm_audit.proofs.checking.check_dues.Goals as goal

pub check_due-requires-clause-facts : goal.check_due-requires-clause-facts
check_due-requires-clause-facts c =
    (due_ready_at (sorts_in c.args.table.now) (trees_in c.args.table.now) c.args.dues.now c.loop-due.due-index c.due-item.result c.requires
    c.loop-due-test.true c.due-item.is).0

pub check_due-requires-clause-goals : goal.check_due-requires-clause-goals
check_due-requires-clause-goals c =
    (due_ready_at (sorts_in c.args.table.now) (trees_in c.args.table.now) c.args.dues.now c.loop-due.due-index c.due-item.result c.requires
    c.loop-due-test.true c.due-item.is).1

pub loop-due-preserved : goal.loop-due-preserved
loop-due-preserved c = λ states all rest.
    let sorts = sorts_in c.args.table.now in
    let trees = trees_in c.args.table.now in
    let i = c.loop-due.due-index in
    c.loop-due.invariant states all
    (due_before sorts trees states c.args.dues.now i c.due-item.result c.loop-due.left.now c.loop-due-test.true c.due-item.is
    (c.in_ok-left.ensures states (all_goals (dues_in sorts trees (drop (i + 1) c.args.dues.now))) all rest))

pub returns-then-is_empty : goal.returns-then-is_empty
returns-then-is_empty c = λ states all.
    let sorts = sorts_in c.args.table.now in
    let trees = trees_in c.args.table.now in
    let none : c.loop-due.left.now ≡ [] =
    nil_from_length c.loop-due.left.now (eqb-true (length c.loop-due.left.now) 0 (sym c.is_empty.ensures ∙ c.if-is_empty.true)) in
    c.loop-due.invariant states all
    (subst (λ (ds : List Due). AreGoalsFit sorts states trees (all_goals (dues_in sorts trees ds)) c.loop-due.left.now)
    (sym (drop_all c.loop-due.due-index c.args.dues.now c.loop-due-test.false))
    (subst (λ (cs : List CertTree). AreGoalsFit sorts states trees [] cs) (sym none) tt))
