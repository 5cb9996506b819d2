-- The goals so far close, and the node is one over the table.
use Rattle.sm_houdini.proofs.Imports.{◌≡◌, ◌+◌, ◌++◌, ℕ, List, drop, take, Assertion, trees_in, sorts_in, ExtendsTable, forms_in, due_in, Verdict, walk, AreCollected, goals_with, Outcome, goals_outcome, IsNodeOf}
use Rattle.sm_houdini.proofs.ending.end_run_at.Given as goal

abbrev pub invariant-loop-goal : goal.invariant-loop-goal
invariant-loop-goal l =
    let sorts = sorts_in l.initial.table in
    let d = due_in sorts (trees_in l.initial.table) l.asking.due.now in
    let asks = forms_in sorts (trees_in l.initial.table) l.run in
    record {
      count : l.at ≡ l.first + l.goal-index;
      collected : (goals : List (List Assertion × Assertion)) → AreCollected l.initial.table goals l.initial.trees.items →
          AreCollected l.table (goals ++ goals_with d.facts (take l.goal-index asks)) l.trees.items;
      closes : (goals : List (List Assertion × Assertion)) → AreCollected l.initial.table goals l.initial.trees.items →
          (later : Outcome (ℕ × Verdict)) →
          goals_outcome (walk sorts l.asking.reach d.facts) d.node l.first asks later
          ≡ goals_outcome (walk sorts l.asking.reach d.facts) d.node (l.first + l.goal-index) (drop l.goal-index asks) later;
      widens : ExtendsTable l.initial.table l.table;
      shared : IsNodeOf l.table l.asking.due.now.facts.list.items l.shared;
    }
