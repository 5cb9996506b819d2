-- The obligations from here on, with the certificates that are left, decide.
use Rattle.sm_audit.proofs.Imports.{List, drop, trees_in, sorts_in, State, dues_in, all_goals, AreGoalsFit, AreSince}
use Rattle.sm_audit.proofs.checking.check_dues.Given as goal

abbrev pub invariant-loop-due : goal.invariant-loop-due
invariant-loop-due l =
    let sorts = sorts_in l.table in
    let terms = trees_in l.table in
    (states : List State) → AreSince sorts states terms l.since →
    AreGoalsFit sorts states terms (all_goals (dues_in sorts terms (drop l.due-index l.dues))) l.left →
    AreGoalsFit sorts states terms (all_goals (dues_in sorts terms l.dues)) l.trees
