-- The goals of the runs so far close.
use Rattle.sm_houdini.proofs.Imports.{◌≡◌, ◌++◌, ◌*◌, ℕ, List, length, drop, take, Formula, Assertion, TableValue, trees_in, sorts_in, ExtendsTable, forms_in, due_in, Verdict, walk, Reach, AreCollected, goals_with, AreRunEnds, Outcome, goals_outcome}
use Rattle.sm_expand.specs.declared.due.Due.{Due}
use Rattle.sm_houdini.proofs.end_jobs.joined.Given as goal

abbrev pub invariant-loop-run : goal.invariant-loop-run
invariant-loop-run l = record {
  collected : (v : TableValue) → ExtendsTable v l.initial.table → l.from ≡ length (trees_in v) → (reach : Reach) (due : Due) (asks : List Formula)
      (goals : List (List Assertion × Assertion)) (ends : AreRunEnds v reach due asks l.runs) →
      AreCollected l.initial.table goals l.initial.trees.items →
      AreCollected l.table (goals ++ goals_with (due_in (sorts_in v) (trees_in v) due).facts (take (l.run-index * ends.size)
      (forms_in (sorts_in v) (trees_in v) asks))) l.trees.items;
  closes : (v : TableValue) (reach : Reach) (due : Due) (asks : List Formula) (ends : AreRunEnds v reach due asks l.runs)
      (later : Outcome (ℕ × Verdict)) →
      goals_outcome (walk (sorts_in v) reach (due_in (sorts_in v) (trees_in v) due).facts) due.node 0
      (forms_in (sorts_in v) (trees_in v) asks) later
      ≡ goals_outcome (walk (sorts_in v) reach (due_in (sorts_in v) (trees_in v) due).facts) due.node (l.run-index * ends.size)
      (drop (l.run-index * ends.size) (forms_in (sorts_in v) (trees_in v) asks)) later;
  widens : ExtendsTable l.initial.table l.table;
}
