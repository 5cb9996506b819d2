-- The goals of the outputs so far.
use Rattle.sm_plan.proofs.Imports.{◌≡◌, length, map, take, flat_map, numbered, assertion_in, trees_in, sorts_in, AddsTerms, with_sorts, AreAllWithin, place, keeps_goals}
use Rattle.sm_plan.proofs.SummariesLemmas.{numbers}
use Rattle.sm_plan.proofs.targets.target.Given as goal

abbrev pub invariant-loop-x : goal.invariant-loop-x
invariant-loop-x l = record {
  grows : AddsTerms l.fn.table l.table;
  made : map (assertion_in (sorts_in l.table) (trees_in l.table)) (map numbered l.list.items)
      ≡ flat_map (λ o. keeps_goals (place o)) (take l.x-index (with_sorts (sorts_in l.fn.table) (numbers l.x-items)));
  within : AreAllWithin (length (trees_in l.table)) (map numbered l.list.items);
}
