-- How many there are so far.
use Rattle.sm_product.proofs.Imports.{◌≡◌, ◌+◌, ◌≤◌, List, take, Sorts, Tree, dues_in, goals_in}
use Rattle.sm_product.proofs.limits.are_few_goals.Given as goal

abbrev pub invariant-loop-due : goal.invariant-loop-due
invariant-loop-due l = record {
  few : l.count ≤ 200000;
  count : (sorts : Sorts) (trees : List Tree) → l.count ≡ l.nodes + goals_in (dues_in sorts trees (take l.due-index l.dues));
}
