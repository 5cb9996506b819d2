-- How many there are so far.
use Rattle.sm_product.proofs.Imports.{◌≡◌, ◌≤◌, List, take, Sorts, Tree, dues_in, facts_in}
use Rattle.sm_product.proofs.limits.are_few_facts.Given as goal

abbrev pub invariant-loop-due : goal.invariant-loop-due
invariant-loop-due l = record {
  few : l.count ≤ 10000000;
  count : (sorts : Sorts) (trees : List Tree) → l.count ≡ facts_in (dues_in sorts trees (take l.due-index l.dues));
}
